use Rattle.std.proofs.Common.{arith}
use Rattle.bitrow.proofs.Members.{row_remove, word_within}
use Rattle.bitrow.proofs.row.BitRow.remove.Goals as goal

pub clear_bit-requires : goal.clear_bit-requires
clear_bit-requires c = word_within c.self.inside.words.items _ c.self.inside.len c.args.number c.args.self.now
    c.self.view_is c.self.invariant c.as_mut_slice.ensures.value c.requires

pub invariant_of-self : goal.invariant_of-self
invariant_of-self c =
    (row_remove c.self.inside.words _ c.clear_bit.new.words _ _ c.self.view_is c.self.invariant
    c.as_mut_slice.ensures.value
    (omega arith) c.args.number c.clear_bit.ensures).held

pub returns-clause-len : goal.returns-clause-len
returns-clause-len c =
    (row_remove c.self.inside.words _ c.clear_bit.new.words _ _ c.self.view_is c.self.invariant
    c.as_mut_slice.ensures.value
    (omega arith) c.args.number c.clear_bit.ensures).size

pub returns-clause-numbers : goal.returns-clause-numbers
returns-clause-numbers c =
    (row_remove c.self.inside.words _ c.clear_bit.new.words _ _ c.self.view_is c.self.invariant
    c.as_mut_slice.ensures.value
    (omega arith) c.args.number c.clear_bit.ensures).numbers

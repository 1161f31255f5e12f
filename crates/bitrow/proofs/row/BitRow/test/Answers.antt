use Rattle.std.proofs.Common.{ℕ, List, sym, ap, ◌∙◌}
use Rattle.bitrow.specs.Bits.{bit_of}
use Rattle.bitrow.proofs.Members.{row_bit, word_within}
use Rattle.bitrow.proofs.row.BitRow.test.Goals as goal

pub test_bit-requires : goal.test_bit-requires
test_bit-requires c = word_within c.self.inside.words.items _ c.self.inside.len c.args.number c.args.self.now
    c.self.view_is c.self.invariant c.as_slice.ensures c.requires

pub returns : goal.returns
returns c = c.test_bit.ensures ∙ (ap (λ (ws : List ℕ). bit_of ws c.args.number) c.as_slice.ensures
    ∙ sym (row_bit c.self.inside.words.items c.self.inside.len c.args.self.now c.self.view_is
    c.self.invariant.clear c.args.number))

use Rattle.std.proofs.Common.{arith, ap, List, ℕ, length}
use Rattle.bitrow.proofs.Members.{row_and_not, rows_wide}
use Rattle.bitrow.proofs.row.BitRow.and_not.Goals as goal

pub and_not_words-requires : goal.and_not_words-requires
and_not_words-requires c = omega (
  arith,
  rows_wide _ _ _ _ _ _ c.other.view_is c.self.view_is c.other.invariant c.self.invariant c.requires,
  ap (λ (ws : List ℕ). length ws) c.as_mut_slice.ensures.value,
  ap (λ (ws : List ℕ). length ws) c.as_slice.ensures,
)

pub invariant_of-self : goal.invariant_of-self
invariant_of-self c =
    (row_and_not c.self.inside.words _ c.and_not_words.new.words _ _ c.self.view_is c.self.invariant
    c.as_mut_slice.ensures.value
    (omega arith) _ _ _ _ c.other.view_is c.other.invariant c.as_slice.ensures
    c.and_not_words.ensures).held

pub returns-clause-len : goal.returns-clause-len
returns-clause-len c =
    (row_and_not c.self.inside.words _ c.and_not_words.new.words _ _ c.self.view_is c.self.invariant
    c.as_mut_slice.ensures.value
    (omega arith) _ _ _ _ c.other.view_is c.other.invariant c.as_slice.ensures
    c.and_not_words.ensures).size

pub returns-clause-numbers : goal.returns-clause-numbers
returns-clause-numbers c =
    (row_and_not c.self.inside.words _ c.and_not_words.new.words _ _ c.self.view_is c.self.invariant
    c.as_mut_slice.ensures.value
    (omega arith) _ _ _ _ c.other.view_is c.other.invariant c.as_slice.ensures
    c.and_not_words.ensures).numbers

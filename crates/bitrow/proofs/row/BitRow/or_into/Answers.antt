use Rattle.std.proofs.Common.{arith, ap, List, ℕ, length}
use Rattle.bitrow.proofs.Members.{row_or, rows_wide}
use Rattle.bitrow.proofs.row.BitRow.or_into.Goals as goal

pub or_words-requires : goal.or_words-requires
or_words-requires c = omega (
  arith,
  rows_wide _ _ _ _ _ _ c.self.view_is c.into.view_is c.self.invariant c.into.invariant c.requires,
  ap (λ (ws : List ℕ). length ws) c.as_mut_slice.ensures.value,
  ap (λ (ws : List ℕ). length ws) c.as_slice.ensures,
)

pub invariant_of-into : goal.invariant_of-into
invariant_of-into c =
    (row_or c.into.inside.words _ c.or_words.new.words _ _ c.into.view_is c.into.invariant c.as_mut_slice.ensures.value
    (omega arith) _ _ _ _ c.self.view_is c.self.invariant c.as_slice.ensures
    c.requires c.or_words.ensures).held

pub returns-clause-len : goal.returns-clause-len
returns-clause-len c =
    (row_or c.into.inside.words _ c.or_words.new.words _ _ c.into.view_is c.into.invariant c.as_mut_slice.ensures.value
    (omega arith) _ _ _ _ c.self.view_is c.self.invariant c.as_slice.ensures
    c.requires c.or_words.ensures).size

pub returns-clause-numbers : goal.returns-clause-numbers
returns-clause-numbers c =
    (row_or c.into.inside.words _ c.or_words.new.words _ _ c.into.view_is c.into.invariant c.as_mut_slice.ensures.value
    (omega arith) _ _ _ _ c.self.view_is c.self.invariant c.as_slice.ensures
    c.requires c.or_words.ensures).numbers

-- How often an event of a table is before another: once where they are related.
use Rattle.std.proofs.Common.{◌≡◌, ◌<◌, ◌≤◌, inl, inr, ℕ, arith, ap}
use Rattle.std.proofs.lemmas.Bool.{cases_Bool}
use Rattle.relations.specs.Relation.{Table, relates, Related}
use Rattle.order.specs.Open.{one_if, relates_once}

-- what is before another is related to it
pub once_related : (t : Table) (e f : ℕ) → 0 < relates_once t e f → Related t e f
once_related t e f h = elim (cases_Bool (relates t e f)) [
  | inl holds ↦ holds
  | inr fails ↦ absurd (omega (arith, h, ap one_if fails))
]

-- and the other way round
pub related_once : (t : Table) (e f : ℕ) → Related t e f → 0 < relates_once t e f
related_once t e f r = omega (arith, ap one_if r)

-- it is so once at most
pub once_most : (t : Table) (e f : ℕ) → relates_once t e f ≤ 1
once_most t e f = elim (cases_Bool (relates t e f)) [
  | inl holds ↦ omega (arith, ap one_if holds)
  | inr fails ↦ omega (arith, ap one_if fails)
]

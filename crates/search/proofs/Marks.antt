-- A level of one event.
use Rattle.std.proofs.Common.{◌≡◌, inl, inr, ℕ, true, sym}
use Rattle.std.specs.Prelude.{◌==◌}
use Rattle.std.proofs.lemmas.Bool.{cases_eq, ne_eqb}
use Rattle.search.proofs.Levels.{not_both}

-- an event that is told to be the source is the source
pub one_alone : (v e : ℕ) → (e == v) ≡ true → v ≡ e
one_alone v e is = elim (cases_eq e v) [
  | inl here ↦ sym here
  | inr other ↦ absurd (not_both (e == v) is (ne_eqb e v other))
]

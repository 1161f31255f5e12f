-- What loops keep of numbers that they have passed.
use Rattle.std.proofs.Common.{◌<◌, ◌+◌, ℕ, arith, subst, inl, inr}
use Rattle.std.proofs.lemmas.Bool.{cases_eq}

-- what holds below i, and of i, holds below i + 1
pub one_more : (P : ℕ → Type 0) (i : ℕ) → ((j : ℕ) → j < i → P j) → P i → (j : ℕ) → j < i + 1 → P j
one_more P i before here j low = elim (cases_eq i j) [
  | inl is ↦ subst P is here
  | inr other ↦ before j (omega (arith, low, other))
]

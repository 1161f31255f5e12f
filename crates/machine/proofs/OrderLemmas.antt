-- Lemmas on an order in which one more event is put between two parts.
use Rattle.std.proofs.Common.{◌≡◌, ◌≢◌, ◌<◌, ◌≤◌, ◌+◌, ◌⊎◌, inl, inr, ℕ, List, ◌∷◌, ◌++◌, length, arith, sym}
use Rattle.std.proofs.Common.{length-append}
use Rattle.recording.specs.Order.{place, Before}
use Rattle.recording.specs.OrderLaws.{place_there, place_in, place_append_left, place_append_right, cases_times}

-- with b put between the two parts, what stood in the right part alone moves by one, and the rest stays
moved : (u v : List ℕ) (b e : ℕ) → e ≢ b
    → ((place (u ++ v) e < length u) × (place (u ++ b ∷ v) e ≡ place (u ++ v) e))
    ⊎ ((length u ≤ place (u ++ v) e) × (place (u ++ b ∷ v) e ≡ place (u ++ v) e + 1))
moved u v b e other = elim (cases_times u e) [
  | inl none ↦ inr (
    omega (arith, place_append_right u v e none),
    omega (
      arith,
      place_append_right u (b ∷ v) e none,
      place_append_right u v e none,
      place_there v b e (λ s. other (sym s)),
    ),
  )
  | inr left ↦ inl (
    omega (arith, place_append_left u v e left, place_in u e left),
    omega (arith, place_append_left u (b ∷ v) e left, place_append_left u v e left),
  )
]

-- the list is longer by one
longer : (u v : List ℕ) (b : ℕ) → length (u ++ b ∷ v) ≡ length (u ++ v) + 1
longer u v b = omega (arith, length-append u (b ∷ v), length-append u v)

-- to put b between the two parts changes no pair of others
pub inserted : (u v : List ℕ) (b e f : ℕ) → e ≢ b → f ≢ b → Before (u ++ v) e f → Before (u ++ b ∷ v) e f
inserted u v b e f eb fb h = grind (arith, moved u v b e eb, moved u v b f fb, longer u v b)

-- and the other way round
pub removed : (u v : List ℕ) (b e f : ℕ) → e ≢ b → f ≢ b → Before (u ++ b ∷ v) e f → Before (u ++ v) e f
removed u v b e f eb fb h =
    grind (arith, moved u v b e eb, moved u v b f fb, longer u v b, length-append u v)

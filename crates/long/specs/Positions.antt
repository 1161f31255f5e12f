-- Places of events in an order, by number.
use Rattle.std.specs.Prelude.{◌≡◌, ◌<◌, ℕ, List, length, slice_index}
use Rattle.recording.specs.Order.{place}
use Rattle.long.specs.Chains.{times_listed}

-- for each number below n its place in a list
pub record ArePositions (m : List ℕ) (n : ℕ) (positions : List ℕ) : Type 0 where
  pub size : length positions ≡ n
  pub each : (e : ℕ) → e < n → slice_index positions e ≡ place m e

-- the first of the list's numbers, of which no two are one, have their places, and no others have
pub record ArePlaced (m : List ℕ) (n k : ℕ) (positions : List ℕ) : Type 0 where
  pub size : length positions ≡ n
  pub within : (j : ℕ) → j < k → slice_index m j < n
  pub placed : (j : ℕ) → j < k → slice_index positions (slice_index m j) ≡ j
  pub only : (e : ℕ) → e < n → slice_index positions e < n
      → (slice_index positions e < k) × (slice_index m (slice_index positions e) ≡ e)

-- each pair of a list has its first event at an earlier place
abbrev pub AreInOrder : List (ℕ × ℕ) → List ℕ → Type 0
AreInOrder pairs positions = (d f : ℕ) → 0 < times_listed pairs d f
    → slice_index positions d < slice_index positions f

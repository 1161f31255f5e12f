-- What is asked of rows of distances, and what the search for cycles gives.
use Rattle.std.specs.Prelude.{◌≡◌, ◌⊎◌, ◌<◌, ◌≤◌, ℕ, Option, Some, None, List, [], length, slice_index}
use Rattle.std.specs.Prelude.{slice_index_or}
use Rattle.relations.specs.Cycle.{IsAcyclic, IsShortest}

-- the least of `before` and the labels of what is related to v
pub record IsNearest (R : ℕ → ℕ → Type 0) (v : ℕ) (row : List ℕ) (before least : ℕ) : Type 0 where
  pub below : least ≤ before
  pub reached : (least ≡ before) ⊎ ((e : ℕ) × R e v × (slice_index row e ≡ least))
  pub nearest : (e : ℕ) → R e v → least ≤ slice_index row e

-- a shortest cycle has this length
abbrev pub IsShortestLength : (ℕ → ℕ → Type 0) → ℕ → Type 0
IsShortestLength R k = (c : List ℕ) × IsShortest R c × (length c ≡ k)

-- the length of the shortest cycles, and none where there is no cycle
abbrev pub IsLeastLength : (ℕ → ℕ → Type 0) → Option ℕ → Type 0
IsLeastLength R None = IsAcyclic R
IsLeastLength R (Some k) = IsShortestLength R k

-- the least number with P, and none where there is none below n
abbrev pub IsLeastWith : (ℕ → Type 0) → ℕ → Option ℕ → Type 0
IsLeastWith P n None = (v : ℕ) → v < n → ¬ P v
IsLeastWith P n (Some v) = (v < n) × P v × ((u : ℕ) → u < v → ¬ P u)

-- an event from which v is one step, at this label
abbrev pub ClosesAt : (ℕ → ℕ → Type 0) → ℕ → List ℕ → ℕ → Type 0
ClosesAt R v row label = (e : ℕ) × R e v × (slice_index row e ≡ label)

-- an event one step later, from which v is that many steps
abbrev pub IsNextOnCycle : (ℕ → ℕ → Type 0) → List (List ℕ) → ℕ → ℕ → ℕ → ℕ → Type 0
IsNextOnCycle R rows from v left f = R from f × (slice_index (slice_index_or rows f []) v ≡ left)

-- n rows of n numbers
pub record IsGrid (n : ℕ) (rows : List (List ℕ)) : Type 0 where
  pub one_each : length rows ≡ n
  pub lengths : (v : ℕ) → v < n → length (slice_index_or rows v []) ≡ n

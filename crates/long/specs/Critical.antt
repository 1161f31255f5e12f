-- Cycles without a chord.
use Rattle.std.specs.Prelude.{◌≡◌, ◌<◌, ◌≤◌, ◌+◌, ◌-◌, ℕ, List, length, slice_index}
use Rattle.recording.specs.Execution.{Execution}
use Rattle.relations.specs.Cycle.{IsCycle, next_in_cycle}
use Rattle.relations.specs.Forced.{Forced}

-- a cycle of which no event is related to any but its next: its events without one of them have no cycle
pub record IsCritical (R : ℕ → ℕ → Type 0) (c : List ℕ) : Type 0 where
  pub cycle : IsCycle R c
  pub chordless : (i j : ℕ) → i < length c → j < length c → R (slice_index c i) (slice_index c j)
      → slice_index c j ≡ next_in_cycle c i

-- the event at place i is forced before the one at place j, and before none that stands after it
pub record IsFarthest (x : Execution) (c : List ℕ) (i j : ℕ) : Type 0 where
  pub after : i < j
  pub within : j < length c
  pub forced : Forced x (slice_index c i) (slice_index c j)
  pub last : (k : ℕ) → j < k → k < length c → ¬ Forced x (slice_index c i) (slice_index c k)

-- each event is forced before the next and before none that stands after it, and the last before the first
pub record IsLeaping (x : Execution) (c : List ℕ) : Type 0 where
  pub some : 0 < length c
  pub next : (i : ℕ) → i + 1 < length c → Forced x (slice_index c i) (slice_index c (i + 1))
  pub leaps : (i k : ℕ) → i + 1 < k → k < length c → ¬ Forced x (slice_index c i) (slice_index c k)
  pub back : Forced x (slice_index c (length c - 1)) (slice_index c 0)

-- the event at place i is forced before the one at place j, which is not after it, and before none between
pub record IsNearestBack (x : Execution) (c : List ℕ) (i j : ℕ) : Type 0 where
  pub before : j ≤ i
  pub forced : Forced x (slice_index c i) (slice_index c j)
  pub last : (k : ℕ) → j < k → k ≤ i → ¬ Forced x (slice_index c i) (slice_index c k)

-- the event at place i is forced before none at or before it
abbrev pub HasNoBack : Execution → List ℕ → ℕ → Type 0
HasNoBack x c i = (j : ℕ) → j ≤ i → ¬ Forced x (slice_index c i) (slice_index c j)

-- i is the first place with an event that is forced before one at or before it, and j the last of these
pub record IsFirstBack (x : Execution) (c : List ℕ) (j i : ℕ) : Type 0 where
  pub within : i < length c
  pub nearest : IsNearestBack x c i j
  pub first : (k : ℕ) → k < i → HasNoBack x c k

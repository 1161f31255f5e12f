-- What a seat at the shared bound knows of the cycles of a relation.
use Rattle.std.specs.Prelude.{◌≡◌, ◌⊎◌, ◌≤◌, ◌+◌, ℕ, Option, Some, None, List, length, Contains}
use Rattle.relations.specs.Relation.{Table}
use Rattle.relations.specs.Cycle.{IsCycle}
use Rattle.best.specs.declared.seat.Best.{Best}
use Rattle.best.specs.declared.seat.BestSeat.{BestSeat}
use Rattle.best.specs.Seats.{IsBestSeatOf, known_of}
use Rattle.search.specs.Cycles.{IsShortestLength}

-- for each cycle through v a length that is known and at most its own
abbrev pub Covers : (ℕ → ℕ → Type 0) → List ℕ → ℕ → Type 0
Covers R lengths v = (c : List ℕ) → IsCycle R c → Contains c v
    → (k : ℕ) × Contains lengths k × (k ≤ length c)

-- the label closes no cycle of n events, or a known length is at most that of the cycle that it closes
abbrev pub CoversClosing : List ℕ → ℕ → ℕ → Type 0
CoversClosing lengths n closing = (n ≤ closing) ⊎ ((k : ℕ) × Contains lengths k × (k ≤ closing + 1))

-- at most the number, where none is above every number
abbrev pub AtMost : Option ℕ → ℕ → Type 0
AtMost None k = ⊥
AtMost (Some n) k = n ≤ k

-- at most each known length
abbrev pub IsCapWithin : List ℕ → Option ℕ → Type 0
IsCapWithin lengths cap = (k : ℕ) → Contains lengths k → AtMost cap k

-- what was known is known
abbrev pub Keeps : List ℕ → List ℕ → Type 0
Keeps before after = (k : ℕ) → Contains before k → Contains after k

-- the length of the shortest cycles is known, if there is a cycle
abbrev pub KnowsShortest : (ℕ → ℕ → Type 0) → List ℕ → Type 0
KnowsShortest R lengths = (k : ℕ) → IsShortestLength R k → Contains lengths k

-- the lengths that a seat knows
abbrev pub lengths_of : BestSeat → List ℕ
lengths_of s = (known_of s).lengths

-- a seat of the bound, for the cycles of this relation
abbrev pub IsSeatFor : Best → Table → BestSeat → Type 0
IsSeatFor b t s = IsBestSeatOf b s × ((known_of s).relation ≡ t)

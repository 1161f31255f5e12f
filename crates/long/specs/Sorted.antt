-- What comes of sorting.
use Rattle.std.specs.Prelude.{◌<◌, ◌^◌, ℕ, length}
use Rattle.recording.specs.Execution.{Execution, event_count}
use Rattle.relations.specs.Forced.{Forced}
use Rattle.relations.specs.Respects.{IsLeastOrder}
use Rattle.long.specs.declared.sorting.Sorted.{Sorted}
use Rattle.long.specs.declared.sorting.Sorted.TheVariants.{Ordered, Blocked}
use Rattle.long.specs.declared.sorting.Unsorted.{Unsorted}
use Rattle.long.specs.Chains.{times_kept}
use Rattle.long.specs.Walks.{IsBlocked, IsOpenEvent}

-- forced pairs, and open events, each of which is the second of a pair of one of them
pub record IsLeft (x : Execution) (l : Unsorted) : Type 0 where
  pub few : length l.waiting < 2 ^ 32
  pub within : (d f : ℕ) → 0 < times_kept l.pairs d f → f < length l.waiting
  pub blocked : IsBlocked l.pairs l.waiting
  pub some : (e : ℕ) × IsOpenEvent l.waiting e
  pub forced : (d e : ℕ) → 0 < times_kept l.pairs d e → Forced x d e

-- the first of the orders that have the forced pairs in order, or events that are left
abbrev pub IsSorted : Execution → Sorted → Type 0
IsSorted x (Ordered m) = IsLeastOrder (Forced x) (event_count x) m.items
IsSorted x (Blocked l) = IsLeft x l

use Rattle.std.proofs.Common.{ℕ, List, All}
use Rattle.std.specs.Vec.Iter.{into_iter_items}
use Rattle.relations.specs.Relation.{Table}
use Rattle.search.specs.WorkerJobs.{IsRowFor}
use Rattle.search.specs.Slots.{AreSlots}
use Rattle.search.proofs.slots.put_rows.Given as goal

abbrev pub invariant-loop-row : goal.invariant-loop-row
invariant-loop-row l = (t : Table) (lengths : List ℕ) → All (IsRowFor t lengths) l.fn.rows.items
    → AreSlots t lengths l.initial.slots.items
    → AreSlots t lengths l.slots.items × All (IsRowFor t lengths) (into_iter_items l.row-iterator)

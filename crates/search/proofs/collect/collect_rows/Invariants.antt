use Rattle.std.proofs.Common.{All}
use Rattle.std.specs.Vec.Iter.{into_iter_items}
use Rattle.search.specs.Bound.{IsSeatFor, Keeps, lengths_of}
use Rattle.search.specs.WorkerJobs.{AreRowsFor}
use Rattle.search.specs.Slots.{AreSlots}
use Rattle.search.proofs.collect.collect_rows.Given as goal

abbrev pub invariant-loop-worker_rows : goal.invariant-loop-worker_rows
invariant-loop-worker_rows g l =
    IsSeatFor l.best l.table l.seat
    × Keeps (lengths_of l.initial.seat) (lengths_of l.seat)
    × AreSlots l.table (lengths_of l.seat) l.slots.items
    × All (AreRowsFor l.best l.table) (into_iter_items l.worker_rows-iterator)

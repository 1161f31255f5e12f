use Rattle.std.proofs.Common.{All}
use Rattle.std.specs.Vec.Iter.{into_iter_items}
use Rattle.relations.specs.Relation.{Table}
use Rattle.best.specs.declared.seat.Best.{Best}
use Rattle.search.specs.WorkerJobs.{AreRowsFor}
use Rattle.search.specs.Started.{IsStarted}
use Rattle.search.proofs.work.join_all.Given as goal

abbrev pub invariant-loop-child : goal.invariant-loop-child
invariant-loop-child g l =
    (b : Best) (t : Table) → All (IsStarted b t) l.fn.started.items
    → All (AreRowsFor b t) l.fn.rows_of_workers.items
    → All (AreRowsFor b t) l.rows_of_workers.items × All (IsStarted b t) (into_iter_items l.child-iterator)

use Rattle.std.proofs.Common.{All}
use Rattle.std.specs.Vec.Iter.{into_iter_items}
use Rattle.search.specs.WorkerJobs.{AreJobsFor}
use Rattle.search.specs.Started.{IsStarted}
use Rattle.search.proofs.work.start_all.Given as goal

abbrev pub invariant-loop-worker_jobs : goal.invariant-loop-worker_jobs
invariant-loop-worker_jobs g l =
    All (IsStarted l.best l.relation) l.started.items
    × All (AreJobsFor l.best l.relation) (into_iter_items l.worker_jobs-iterator)

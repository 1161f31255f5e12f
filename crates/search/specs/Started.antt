-- Workers that were started.
use Rattle.std.specs.declared.thread.PromisedHandle.{PromisedHandle}
use Rattle.relations.specs.Relation.{Table}
use Rattle.best.specs.declared.seat.Best.{Best}
use Rattle.search.specs.declared.worker_jobs.WorkerRows.{WorkerRows}
use Rattle.search.specs.declared.worker_jobs.RowsPromise.{RowsPromise}
use Rattle.search.specs.WorkerJobs.{AreJobsFor}

-- a worker that promised the rows of jobs for this relation
abbrev pub IsStarted : Best → Table → PromisedHandle WorkerRows RowsPromise → Type 0
IsStarted b t h = AreJobsFor b t h.promise.0.value

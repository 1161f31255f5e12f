use Rattle.std.proofs.Common.{◌≡◌, All}
use Rattle.relations.specs.Relation.{Table}
use Rattle.best.specs.declared.seat.Best.{Best}
use Rattle.search.specs.Bound.{IsSeatFor, lengths_of}
use Rattle.search.specs.WorkerJobs.{AreJobsFor}
use Rattle.search.specs.SourceRow.{Job}
use Rattle.search.proofs.splitting.split_jobs.Given as goal

abbrev pub invariant-loop-worker : goal.invariant-loop-worker
invariant-loop-worker l = (lengths_of l.seat ≡ lengths_of l.initial.seat)
    × ((b : Best) (t : Table) → IsSeatFor b t l.initial.seat → All (λ (job : Job). job.relation ≡ t) l.initial.jobs.items
    → IsSeatFor b t l.seat × All (λ (job : Job). job.relation ≡ t) l.jobs.items
    × All (AreJobsFor b t) l.jobs_of_workers.items)

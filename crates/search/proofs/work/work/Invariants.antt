use Rattle.std.proofs.Common.{◌≡◌, All}
use Rattle.std.specs.Vec.Iter.{into_iter_items}
use Rattle.search.specs.Bound.{IsSeatFor, lengths_of}
use Rattle.search.specs.WorkerJobs.{IsRowFor}
use Rattle.search.proofs.work.work.Given as goal

abbrev pub invariant-loop-job : goal.invariant-loop-job
invariant-loop-job g l =
    IsSeatFor l.best l.relation l.seat
    × All (IsRowFor l.relation (lengths_of l.seat)) l.rows.items
    × All (λ job. job.relation ≡ l.relation) (into_iter_items l.job-iterator)

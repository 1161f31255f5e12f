-- The jobs of workers, and their rows.
use Rattle.std.specs.Prelude.{◌≡◌, ℕ, List, All}
use Rattle.relations.specs.Relation.{Table, Related}
use Rattle.best.specs.declared.seat.Best.{Best}
use Rattle.best.specs.Seats.{AreBeside, known_of}
use Rattle.search.specs.SourceRow.{SourceRow}
use Rattle.search.specs.Bound.{Covers, IsSeatFor, lengths_of}
use Rattle.search.specs.declared.worker_jobs.WorkerJobs.{WorkerJobs}
use Rattle.search.specs.declared.worker_jobs.WorkerRows.{WorkerRows}

-- a row of the relation, through whose source no cycle is shorter than each of the known lengths
pub record IsRowFor (t : Table) (lengths : List ℕ) (row : SourceRow) : Type 0 where
  pub shares : row.relation ≡ t
  pub covers : Covers (Related t) lengths row.source

-- rows of the relation of the jobs, with a seat beside the worker's that knows of their cycles
abbrev pub AreRowsOf : WorkerJobs → WorkerRows → Type 0
AreRowsOf c h = AreBeside c.seat h.seat × ((known_of h.seat).relation ≡ (known_of c.seat).relation)
    × All (IsRowFor (known_of c.seat).relation (lengths_of h.seat)) h.rows.items

-- a worker's jobs for the cycles of this relation
abbrev pub AreJobsFor : Best → Table → WorkerJobs → Type 0
AreJobsFor b t c = IsSeatFor b t c.seat × All (λ job. job.relation ≡ t) c.jobs.items

-- a worker's rows of this relation
abbrev pub AreRowsFor : Best → Table → WorkerRows → Type 0
AreRowsFor b t h = IsSeatFor b t h.seat × All (IsRowFor t (lengths_of h.seat)) h.rows.items

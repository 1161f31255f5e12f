use Rattle.std.proofs.Common.{◌≡◌, ◌<◌, ℕ, get_or, length}
use Rattle.std.specs.Arc.{arc_value}
use Rattle.search.specs.SourceRow.{Job, job_of}
use Rattle.search.proofs.alone.jobs_of.Given as goal

abbrev pub invariant-loop-source : goal.invariant-loop-source
invariant-loop-source l = record {
  size : length l.jobs.items ≡ l.source;
  each : (e : ℕ) (d : Job) → e < length l.jobs.items → get_or l.jobs.items e d ≡ job_of (arc_value l.relation) e;
}

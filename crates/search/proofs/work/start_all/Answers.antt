use Rattle.std.specs.Vec.Iter.{into_iter_items}
use Rattle.std.proofs.lemmas.List.Elements.{All-rest}
use Rattle.search.specs.WorkerJobs.{AreJobsFor}
use Rattle.search.proofs.work.start_all.Goals as goal

pub loop-worker_jobs-preserved : goal.loop-worker_jobs-preserved
loop-worker_jobs-preserved g c = (
  c.start.ensures,
  All-rest (AreJobsFor c.args.best.now c.args.relation.now) c.in-Some.worker_jobs (into_iter_items c.next.new.self)
      (into_iter_items c.loop-worker_jobs.worker_jobs-iterator) c.in-Some.ensures.steps.0
      c.loop-worker_jobs.invariant.1,
)

use Rattle.std.proofs.Common.{◌∙◌}
use Rattle.search.proofs.splitting.split_jobs.Goals as goal

pub returns-in_err-add_worker-clause-kept : goal.returns-in_err-add_worker-clause-kept
returns-in_err-add_worker-clause-kept c = c.add_worker.ensures.kept ∙ c.loop-worker.invariant.0

pub returns-in_err-add_worker-clause-jobs : goal.returns-in_err-add_worker-clause-jobs
returns-in_err-add_worker-clause-jobs c = λ b t seat jobs.
    let inv = c.loop-worker.invariant.1 b t seat jobs in
    let h = c.add_worker.ensures.jobs b t inv.0 inv.1 inv.2 in (h.0, h.1)

pub loop-worker-preserved : goal.loop-worker-preserved
loop-worker-preserved c = (
  c.add_worker.ensures.kept ∙ c.loop-worker.invariant.0,
  (λ b t seat jobs.
      let inv = c.loop-worker.invariant.1 b t seat jobs in c.in_ok-add_worker.ensures.jobs b t inv.0 inv.1 inv.2),
)

pub returns-clause-jobs : goal.returns-clause-jobs
returns-clause-jobs c = λ b t seat jobs. let inv = c.loop-worker.invariant.1 b t seat jobs in (inv.0, inv.1)

pub returns-clause-jobs_of_workers : goal.returns-clause-jobs_of_workers
returns-clause-jobs_of_workers c = λ b t seat jobs. (c.loop-worker.invariant.1 b t seat jobs).2

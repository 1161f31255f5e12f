use Rattle.std.proofs.Common.{◌∙◌, ap}
use Rattle.best.specs.declared.rule.Known.{Known}
use Rattle.search.proofs.WorkerRows.{seat_beside}
use Rattle.search.proofs.collect.rows_by_workers.Goals as goal

pub returns-in_err-jobs_of_workers-clause-seat : goal.returns-in_err-jobs_of_workers-clause-seat
returns-in_err-jobs_of_workers-clause-seat g c =
    (c.split_jobs.ensures.jobs c.args.best.now c.args.relation.now c.requires.seat c.requires.jobs).0

pub returns-in_err-other-clause-seat : goal.returns-in_err-other-clause-seat
returns-in_err-other-clause-seat g c =
    seat_beside c.args.best.now c.args.relation.now c.split_jobs.new.seat c.split.new.self c.split.ensures.old
    (c.split_jobs.ensures.jobs c.args.best.now c.args.relation.now c.requires.seat c.requires.jobs).0

pub returns-in_err-other-clause-kept : goal.returns-in_err-other-clause-kept
returns-in_err-other-clause-kept g c = ap (λ (v : Known). v.lengths) c.split.ensures.old.1
    ∙ c.split_jobs.ensures.kept

pub run_workers-requires-clause-mine : goal.run_workers-requires-clause-mine
run_workers-requires-clause-mine g c κs within = (
  seat_beside c.args.best.now c.args.relation.now c.split_jobs.new.seat c.in_ok-other.other c.in_ok-other.ensures.new
      (c.split_jobs.ensures.jobs c.args.best.now c.args.relation.now c.requires.seat c.requires.jobs).0,
  (c.split_jobs.ensures.jobs c.args.best.now c.args.relation.now c.requires.seat c.requires.jobs).1,
)

pub run_workers-requires-clause-jobs_of_workers : goal.run_workers-requires-clause-jobs_of_workers
run_workers-requires-clause-jobs_of_workers g c κs within =
    c.in_ok-jobs_of_workers.ensures.jobs_of_workers c.args.best.now c.args.relation.now c.requires.seat c.requires.jobs

pub returns-clause-seat : goal.returns-clause-seat
returns-clause-seat g c =
    seat_beside c.args.best.now c.args.relation.now c.split_jobs.new.seat c.split.new.self c.split.ensures.old
    (c.split_jobs.ensures.jobs c.args.best.now c.args.relation.now c.requires.seat c.requires.jobs).0

pub returns-clause-kept : goal.returns-clause-kept
returns-clause-kept g c = ap (λ (v : Known). v.lengths) c.split.ensures.old.1 ∙ c.split_jobs.ensures.kept

pub returns-clause-rows_of_workers : goal.returns-clause-rows_of_workers
returns-clause-rows_of_workers g c = c.run_workers.ensures

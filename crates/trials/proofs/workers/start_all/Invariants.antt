use Rattle.trials.specs.Looking.{SitsAt}
use Rattle.trials.proofs.workers.start_all.Given as goal

abbrev pub invariant-loop-worker : goal.invariant-loop-worker
invariant-loop-worker g l = SitsAt l.desk l.campaign l.seat

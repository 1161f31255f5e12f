use Rattle.trials.specs.Looking.{SitsAt}
use Rattle.trials.proofs.workers.work.Given as goal

abbrev pub invariant-loop-k : goal.invariant-loop-k
invariant-loop-k g l = SitsAt l.desk l.campaign l.seat

abbrev pub invariant-loop-earlier : goal.invariant-loop-earlier
invariant-loop-earlier g l = SitsAt l.desk l.campaign l.seat

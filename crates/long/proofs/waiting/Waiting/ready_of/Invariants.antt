use Rattle.long.proofs.Keys.{AreReadyBelow}
use Rattle.long.proofs.waiting.Waiting.ready_of.Given as goal

abbrev pub invariant-loop-event : goal.invariant-loop-event
invariant-loop-event l = AreReadyBelow l.event l.counts l.ready

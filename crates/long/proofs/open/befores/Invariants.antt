use Rattle.long.proofs.Befores.{AreBeforeBelow}
use Rattle.long.proofs.open.befores.Given as goal

abbrev pub invariant-loop-event : goal.invariant-loop-event
invariant-loop-event l = AreBeforeBelow l.pairs l.counts l.event l.befores.items

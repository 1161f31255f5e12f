use Rattle.std.proofs.Common.{◌≡◌}
use Rattle.machine.specs.State.{first_event}
use Rattle.outcomes.proofs.reads.first_event.Given as goal

abbrev pub invariant-loop-i : goal.invariant-loop-i
invariant-loop-i l = l.total ≡ first_event l.cores l.i

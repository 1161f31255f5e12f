use Rattle.std.proofs.Common.{◌≡◌, ◌++◌, drop}
use Rattle.replay.specs.Steps.{order_steps}
use Rattle.replay.proofs.steps.steps_of.Given as goal

abbrev pub invariant-loop-number : goal.invariant-loop-number
invariant-loop-number l = record {
  machine : l.replay.machine ≡ record l.fn.machine { state = l.replay.machine.state };
  steps : l.replay.steps ++ order_steps l.recording l.fn.machine.capacity l.fn.machine.fault
      l.replay.machine.state (drop l.number-index l.order)
      ≡ order_steps l.recording l.fn.machine.capacity l.fn.machine.fault l.fn.machine.state l.order;
}

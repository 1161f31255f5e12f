use Rattle.std.proofs.Common.{◌≡◌, drop}
use Rattle.machine.specs.Step.{run}
use Rattle.machine.proofs.machine.Machine.run.Given as goal

abbrev pub invariant-loop-step : goal.invariant-loop-step
invariant-loop-step l = record {
  rest : l.self ≡ record l.fn.self { state = l.self.state };
  state : run l.fn.self.program.cores l.fn.self.capacity l.fn.self.fault l.self.state
      (drop l.step-index l.steps) ≡ run l.fn.self.program.cores l.fn.self.capacity l.fn.self.fault
      l.fn.self.state l.steps;
}

use Rattle.std.proofs.Common.{◌≡◌, drop}
use Rattle.situations.specs.Waiting.{forwarded}
use Rattle.situations.proofs.waiting.forwarded_value.Given as goal

abbrev pub invariant-loop-step : goal.invariant-loop-step
invariant-loop-step g l = forwarded g.T.Step.stored l.address l.value l.steps
    ≡ forwarded g.T.Step.stored l.address l.found (drop l.step-index l.steps)

use Rattle.std.proofs.Common.{◌≡◌, drop}
use Rattle.situations.specs.Waiting.{none_waits}
use Rattle.situations.proofs.waiting.none_waits.Given as goal

abbrev pub invariant-loop-step : goal.invariant-loop-step
invariant-loop-step g l =
    none_waits g.T.Step.stored l.steps ≡ none_waits g.T.Step.stored (drop l.step-index l.steps)

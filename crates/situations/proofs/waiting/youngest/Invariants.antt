use Rattle.std.proofs.Common.{◌≡◌, ◌+◌, None, drop}
use Rattle.situations.specs.Waiting.{youngest}
use Rattle.situations.proofs.waiting.youngest.Given as goal

abbrev pub invariant-loop-i : goal.invariant-loop-i
invariant-loop-i g l = youngest g.T.Step.stored l.address None l.first l.steps
    ≡ youngest g.T.Step.stored l.address l.found (l.first + l.i) (drop l.i l.steps)

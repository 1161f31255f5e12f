use Rattle.std.proofs.Common.{◌≡◌, ◌+◌, drop}
use Rattle.situations.specs.Waiting.{oldest}
use Rattle.situations.proofs.waiting.oldest.Given as goal

abbrev pub invariant-loop-i : goal.invariant-loop-i
invariant-loop-i g l =
    oldest g.T.Step.stored l.first l.steps ≡ oldest g.T.Step.stored (l.first + l.i) (drop l.i l.steps)

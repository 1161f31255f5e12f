use Rattle.explanation.specs.Diy.{AreWordSteps}
use Rattle.explanation.proofs.diy.steps.Given as goal

abbrev pub invariant-loop-i : goal.invariant-loop-i
invariant-loop-i l = AreWordSteps l.recording l.accesses l.i l.found.items

use Rattle.completion.specs.Left.{IsRefuted}
use Rattle.completion.proofs.part.cut.Given as goal

abbrev pub invariant-loop-run : goal.invariant-loop-run
invariant-loop-run l = IsRefuted l.values l.left

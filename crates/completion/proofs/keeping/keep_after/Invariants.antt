use Rattle.completion.specs.Inferred.{AreInferred}
use Rattle.completion.proofs.keeping.keep_after.Given as goal

abbrev pub invariant-loop-f : goal.invariant-loop-f
invariant-loop-f l = AreInferred l.values l.inferred

use Rattle.completion.specs.Inferred.{AreInferred}
use Rattle.completion.proofs.keeping.keep.Given as goal

abbrev pub invariant-loop-e : goal.invariant-loop-e
invariant-loop-e l = AreInferred l.values l.inferred

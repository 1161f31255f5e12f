use Rattle.completion.specs.Inferred.{AreInferred}
use Rattle.completion.proofs.forcing.force_read.Given as goal

abbrev pub invariant-loop-write : goal.invariant-loop-write
invariant-loop-write l = AreInferred l.values l.inferred

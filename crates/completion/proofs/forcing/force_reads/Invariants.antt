use Rattle.completion.specs.Inferred.{AreInferred}
use Rattle.completion.proofs.forcing.force_reads.Given as goal

abbrev pub invariant-loop-i : goal.invariant-loop-i
invariant-loop-i l = AreInferred l.values l.inferred

use Rattle.completion.specs.Inferred.{AreInferred}
use Rattle.completion.proofs.forcing.infer.Given as goal

abbrev pub invariant-loop : goal.invariant-loop
invariant-loop l = AreInferred l.values l.inferred

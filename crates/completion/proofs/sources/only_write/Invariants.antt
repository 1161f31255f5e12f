use Rattle.std.proofs.Common.{◌≡◌, ◌<◌, ℕ, Some, IfSome}
use Rattle.completion.specs.Sources.{MayGive}
use Rattle.completion.proofs.sources.only_write.Given as goal

abbrev pub invariant-loop-write : goal.invariant-loop-write
invariant-loop-write l = record {
  may : IfSome l.found (MayGive l.values l.read l.address);
  only : (u : ℕ) → u < l.write → MayGive l.values l.read l.address u → l.found ≡ Some u;
}

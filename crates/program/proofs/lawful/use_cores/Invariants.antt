use Rattle.std.proofs.Common.{◌≡◌, drop, take}
use Rattle.std.specs.List.{AllByRecursion}
use Rattle.program.specs.Parts.{Small, use_cores}
use Rattle.program.proofs.lawful.use_cores.Given as goal

abbrev pub invariant-loop-core : goal.invariant-loop-core
invariant-loop-core l = record {
  numbered : use_cores l.used (drop l.core-index l.cores) ≡ use_cores 0 l.cores;
  small : AllByRecursion (AllByRecursion Small) (take l.core-index l.cores);
}

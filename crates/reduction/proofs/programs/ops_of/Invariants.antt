use Rattle.std.proofs.Common.{◌≡◌, map, take}
use Rattle.reduction.specs.RestrictedProgram.{readdressed_op}
use Rattle.reduction.proofs.programs.ops_of.Given as goal

abbrev pub invariant-loop-number : goal.invariant-loop-number
invariant-loop-number l = l.ops ≡ map (readdressed_op l.program l.addresses) (take l.number-index l.numbers)

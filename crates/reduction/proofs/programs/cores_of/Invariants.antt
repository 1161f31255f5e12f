use Rattle.std.proofs.Common.{◌≡◌, map, take}
use Rattle.reduction.specs.RestrictedProgram.{readdressed_op}
use Rattle.reduction.proofs.programs.cores_of.Given as goal

abbrev pub invariant-loop-numbers : goal.invariant-loop-numbers
invariant-loop-numbers l = l.lists.items
    ≡ map (λ v. map (readdressed_op l.program l.addresses) v.items) (take l.numbers-index l.cores)

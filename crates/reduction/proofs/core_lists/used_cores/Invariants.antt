use Rattle.std.proofs.Common.{◌≡◌, ◌++◌, ◌-◌, map, length}
use Rattle.reduction.specs.Restriction.{core_lists, used_cores}
use Rattle.reduction.proofs.core_lists.used_cores.Given as goal

abbrev pub invariant-loop-core : goal.invariant-loop-core
invariant-loop-core l = map (λ v. v.items) l.cores.items
    ++ core_lists l.recording l.kept l.core (length l.recording.cores - l.core)
    ≡ used_cores l.recording l.kept

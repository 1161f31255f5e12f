use Rattle.std.proofs.Common.{◌≡◌, map, take}
use Rattle.reduction.specs.Pruned.{pruned_cores}
use Rattle.reduction.proofs.Pruned.{total}
use Rattle.reduction.proofs.pruning.pruned_cores.Given as goal

abbrev pub invariant-loop-core : goal.invariant-loop-core
invariant-loop-core l = (map (λ v. v.items) l.pruned.items
    ≡ pruned_cores l.readers 0 (take l.core-index (map (λ v. v.items) l.cores)))
    × (l.first ≡ total (take l.core-index (map (λ v. v.items) l.cores)))

use Rattle.std.proofs.Common.{◌≡◌, map, take}
use Rattle.reduction.proofs.pruning.prune.Given as goal

abbrev pub invariant-loop-list : goal.invariant-loop-list
invariant-loop-list l = map (λ v. v.items) l.writes.items ≡ map (λ v. v.items) (take l.list-index l.list-items)

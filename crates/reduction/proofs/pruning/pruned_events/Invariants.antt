use Rattle.std.proofs.Common.{◌≡◌, take}
use Rattle.reduction.specs.Pruned.{pruned_events}
use Rattle.reduction.proofs.pruning.pruned_events.Given as goal

abbrev pub invariant-loop-i : goal.invariant-loop-i
invariant-loop-i l = l.pruned.items ≡ pruned_events l.readers l.first (take l.i l.events)

use Rattle.std.proofs.Common.{◌≡◌, take}
use Rattle.reduction.specs.Restriction.{on_core}
use Rattle.reduction.proofs.core_lists.on_core.Given as goal

abbrev pub invariant-loop-number : goal.invariant-loop-number
invariant-loop-number l = l.events.items ≡ on_core l.recording l.core (take l.number-index l.kept)

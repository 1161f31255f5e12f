use Rattle.std.proofs.Common.{◌≡◌, map, take}
use Rattle.reduction.specs.Restriction.{placed_event}
use Rattle.reduction.proofs.events.placed_events.Given as goal

abbrev pub invariant-loop-number : goal.invariant-loop-number
invariant-loop-number l = l.events.items
    ≡ map (placed_event l.recording l.addresses l.kept) (take l.number-index l.numbers)

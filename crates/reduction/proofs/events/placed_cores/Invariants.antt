use Rattle.std.proofs.Common.{◌≡◌, map, take}
use Rattle.reduction.specs.Restriction.{placed_event}
use Rattle.reduction.proofs.events.placed_cores.Given as goal

abbrev pub invariant-loop-numbers : goal.invariant-loop-numbers
invariant-loop-numbers l = map (λ v. v.items) l.lists.items
    ≡ map (λ v. map (placed_event l.recording l.addresses l.kept) v.items) (take l.numbers-index l.cores)

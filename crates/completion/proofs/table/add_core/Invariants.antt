use Rattle.std.proofs.Common.{◌≡◌, ◌++◌, map, drop}
use Rattle.completion.specs.Pairs.{on_core, pair_of}
use Rattle.completion.proofs.table.add_core.Given as goal

abbrev pub invariant-loop-event : goal.invariant-loop-event
invariant-loop-event l = map pair_of l.table.items ++ map (on_core l.core) (drop l.event-index l.events)
    ≡ map pair_of l.fn.table.items ++ map (on_core l.core) l.events

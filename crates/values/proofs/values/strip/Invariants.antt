use Rattle.std.proofs.Common.{◌≡◌, ◌++◌, map, drop}
use Rattle.values.specs.Values.{unsourced}
use Rattle.values.proofs.values.strip.Given as goal

abbrev pub invariant-loop-event : goal.invariant-loop-event
invariant-loop-event l = l.stripped.items ++ map unsourced (drop l.event-index l.events) ≡ map unsourced l.events

use Rattle.std.proofs.Common.{◌≡◌, ◌++◌, map, drop}
use Rattle.values_text.proofs.reading.events_of.Given as goal

abbrev pub invariant-loop-event : goal.invariant-loop-event
invariant-loop-event l = l.events.items ++ map (λ p. p.0) (drop l.event-index l.known) ≡ map (λ p. p.0) l.known

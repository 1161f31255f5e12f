use Rattle.std.proofs.Common.{◌≡◌, ◌++◌, map, drop}
use Rattle.values_text.proofs.reading.push_sources.Given as goal

abbrev pub invariant-loop-event : goal.invariant-loop-event
invariant-loop-event l = l.sources.items ++ map (λ p. p.1) (drop l.event-index l.known)
    ≡ l.fn.sources.items ++ map (λ p. p.1) l.known

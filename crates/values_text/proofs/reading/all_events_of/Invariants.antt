use Rattle.std.proofs.Common.{◌≡◌, ◌++◌, map, drop}
use Rattle.values_text.proofs.reading.all_events_of.Given as goal

abbrev pub invariant-loop-known : goal.invariant-loop-known
invariant-loop-known l = map (λ w. w.items) l.events.items
    ++ map (map (λ p. p.0)) (map (λ w. w.items) (drop l.known-index l.cores))
    ≡ map (map (λ p. p.0)) (map (λ w. w.items) l.cores)

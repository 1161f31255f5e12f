use Rattle.std.proofs.Common.{◌≡◌, ◌++◌, map, flat_map, drop}
use Rattle.values_text.proofs.reading.sources_of.Given as goal

abbrev pub invariant-loop-known : goal.invariant-loop-known
invariant-loop-known l = l.sources.items
    ++ flat_map (map (λ p. p.1)) (map (λ w. w.items) (drop l.known-index l.cores))
    ≡ flat_map (map (λ p. p.1)) (map (λ w. w.items) l.cores)

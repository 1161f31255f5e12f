use Rattle.std.proofs.Common.{◌≡◌, ◌++◌, map, drop}
use Rattle.values_text.specs.Text.{known_cores}
use Rattle.values_text.proofs.known.known_cores.Given as goal

abbrev pub invariant-loop-events : goal.invariant-loop-events
invariant-loop-events l = map (λ w. w.items) l.known.items
    ++ known_cores (map (λ w. w.items) (drop l.events-index l.cores)) l.rest
    ≡ known_cores (map (λ w. w.items) l.cores) l.sources

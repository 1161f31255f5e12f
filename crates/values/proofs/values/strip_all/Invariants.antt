use Rattle.std.proofs.Common.{◌≡◌, ◌++◌, map, drop}
use Rattle.values.specs.Values.{unsourced}
use Rattle.values.proofs.values.strip_all.Given as goal

abbrev pub invariant-loop-events : goal.invariant-loop-events
invariant-loop-events l = map (λ v. v.items) l.stripped.items
    ++ map (map unsourced) (map (λ v. v.items) (drop l.events-index l.cores))
    ≡ map (map unsourced) (map (λ v. v.items) l.cores)

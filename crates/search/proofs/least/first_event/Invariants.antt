use Rattle.std.proofs.Common.{◌<◌, ℕ, get_or, []}
use Rattle.relations.specs.Relation.{Related}
use Rattle.labels.specs.Certified.{lists_of}
use Rattle.search.specs.Cycles.{ClosesAt}
use Rattle.search.proofs.least.first_event.Given as goal

abbrev pub invariant-loop-v : goal.invariant-loop-v
invariant-loop-v l = (v : ℕ) → v < l.v → ¬ ClosesAt (Related l.relation) v (get_or (lists_of l.rows) v [])
    l.label

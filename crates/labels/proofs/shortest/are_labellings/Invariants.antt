use Rattle.std.proofs.Common.{◌<◌, ℕ, get_or, [], length}
use Rattle.relations.specs.Relation.{Related}
use Rattle.relations.specs.Cycle.{IsLabelling}
use Rattle.labels.specs.Certified.{lists_of}
use Rattle.labels.proofs.shortest.are_labellings.Given as goal

abbrev pub invariant-loop-v : goal.invariant-loop-v
invariant-loop-v l = (v : ℕ) → v < l.v
    → IsLabelling (Related l.relation) l.size (length l.relation) v (get_or (lists_of l.rows) v [])

use Rattle.std.proofs.Common.{◌<◌, ℕ}
use Rattle.relations.specs.Relation.{Related}
use Rattle.labels.specs.Certified.{lists_of}
use Rattle.search.specs.Cycles.{IsNextOnCycle}
use Rattle.search.proofs.least.next_event.Given as goal

abbrev pub invariant-loop-next : goal.invariant-loop-next
invariant-loop-next l = (f : ℕ) → f < l.next → ¬ IsNextOnCycle (Related l.relation)
    (lists_of l.rows) l.last l.v l.left f

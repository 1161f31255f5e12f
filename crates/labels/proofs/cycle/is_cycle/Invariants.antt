use Rattle.std.proofs.Common.{◌+◌, ◌↔◌, get_or, drop}
use Rattle.relations.specs.Relation.{Related}
use Rattle.relations.specs.Cycle.{Leads, IsCycle}
use Rattle.labels.proofs.cycle.is_cycle.Given as goal

abbrev pub invariant-loop-i : goal.invariant-loop-i
invariant-loop-i l = IsCycle (Related l.relation) l.cycle
    ↔ Leads (Related l.relation) (get_or l.cycle l.i 0) (drop (l.i + 1) l.cycle) (get_or l.cycle 0 0)

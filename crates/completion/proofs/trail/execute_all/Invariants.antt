use Rattle.completion.specs.Situation.{memory_of}
use Rattle.completion.specs.Performed.{IsTrail, going}
use Rattle.situations.specs.Situation.{drained_of, place_of}
use Rattle.completion.proofs.trail.execute_all.Given as goal

abbrev pub invariant-loop-core : goal.invariant-loop-core
invariant-loop-core l = IsTrail l.values l.trail.order.items l.trail.sources.items
    (going l.old l.new l.core (place_of l.old l.core)) (drained_of l.new) (memory_of l.new)

use Rattle.completion.specs.Situation.{memory_of}
use Rattle.completion.specs.Performed.{IsTrail, going}
use Rattle.situations.specs.Situation.{drained_of}
use Rattle.completion.proofs.trail.execute_core.Given as goal

abbrev pub invariant-loop-place : goal.invariant-loop-place
invariant-loop-place l = IsTrail l.values l.trail.order.items l.trail.sources.items (going l.old l.new l.core l.place)
    (drained_of l.new) (memory_of l.new)

use Rattle.std.proofs.Common.{length}
use Rattle.order.specs.Open.{relates_once}
use Rattle.order.proofs.Waits.{AreCounts}
use Rattle.order.proofs.counts.count_all.Given as goal

abbrev pub invariant-loop-event : goal.invariant-loop-event
invariant-loop-event l = AreCounts (relates_once l.relation) (length l.relation) l.event l.counts.items

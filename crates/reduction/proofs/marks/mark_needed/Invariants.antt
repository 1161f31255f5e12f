use Rattle.reduction.proofs.Following.{AreMarkedTo}
use Rattle.reduction.proofs.marks.mark_needed.Given as goal

abbrev pub invariant-loop-event : goal.invariant-loop-event
invariant-loop-event l = AreMarkedTo l.recording l.events l.event-index l.marks

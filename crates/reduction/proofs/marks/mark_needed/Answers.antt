use Rattle.std.proofs.Common.{get_or}
use Rattle.recording.specs.PlaceLaws.{times_at}
use Rattle.reduction.proofs.Following.{marked_more, marked_all}
use Rattle.reduction.proofs.marks.mark_needed.Goals as goal

pub mark-requires-clause-event : goal.mark-requires-clause-event
mark-requires-clause-event c =
    c.requires (get_or c.args.events.now c.loop-event.event-index 0)
    (times_at c.args.events.now c.loop-event.event-index c.loop-event-test.true)

pub loop-event-preserved : goal.loop-event-preserved
loop-event-preserved c =
    marked_more c.args.recording.now c.args.events.now c.loop-event.event-index c.loop-event.marks c.mark.new.marks
    c.loop-event-test.true c.loop-event.invariant c.mark.ensures.len c.mark.ensures.kept
    (record { closed = c.mark.ensures.closed; here = c.mark.ensures.here; only = c.mark.ensures.only })

pub returns-clause-needed : goal.returns-clause-needed
returns-clause-needed c =
    marked_all c.args.recording.now c.args.events.now c.loop-event.event-index c.loop-event.marks
    c.loop-event-test.false c.loop-event.invariant

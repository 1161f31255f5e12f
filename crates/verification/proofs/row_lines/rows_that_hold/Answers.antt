use Rattle.std.proofs.Common.{◌∙◌, arith, ap}
use Rattle.labels.specs.Certified.{lists_of}
use Rattle.verification.proofs.LabelNumbers.{lists_push}
use Rattle.verification.proofs.RowsHeld.{row_more, rows_end}
use Rattle.verification.proofs.row_lines.rows_that_hold.Goals as goal

pub returns-in_default : goal.returns-in_default
returns-in_default c = rows_end c.args.recording.now c.args.size c.args.rest.now (lists_of c.loop-event.rows.items)
    c.loop-event.event c.loop-event.rest (omega (arith, c.loop-event-test.true, c.len-event-end.ensures))
    c.loop-event.invariant
    (λ labels later low holds spelled.
    absurd (rw c.in_default.is at (c.in_ok-row.ensures.only labels later holds spelled).0))

pub loop-event-preserved : goal.loop-event-preserved
loop-event-preserved c = row_more c.args.recording.now c.args.size c.args.rest.now (lists_of c.loop-event.rows.items)
    (lists_of c.push.new.self.items) c.loop-event.event c.loop-event.rest c.row_that_holds.new.rest
    c.in-Some.row.items c.loop-event.invariant (rw c.in-Some.is at c.in_ok-row.ensures.found)
    (ap lists_of c.in_ok-push.ensures.items ∙ lists_push c.loop-event.rows.items c.in-Some.row)
    (λ labels later holds spelled. let read = c.in_ok-row.ensures.only labels later holds spelled in
    (rw c.in-Some.is at read.0, read.1))

pub returns : goal.returns
returns c = rows_end c.args.recording.now c.args.size c.args.rest.now (lists_of c.loop-event.rows.items)
    c.loop-event.event c.loop-event.rest (omega (arith, c.loop-event.auto.event-end, c.len-event-end.ensures))
    c.loop-event.invariant
    (λ labels later low holds spelled. omega (arith, low, c.loop-event-test.false, c.len-event-end.ensures))

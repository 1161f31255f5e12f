use Rattle.labels.specs.Certified.{lists_of}
use Rattle.verification.proofs.RowsHeld.{RowsGo}
use Rattle.verification.proofs.row_lines.rows_that_hold.Given as goal

abbrev pub invariant-loop-event : goal.invariant-loop-event
invariant-loop-event l = RowsGo l.recording l.size l.fn.rest (lists_of l.rows.items) l.event l.rest

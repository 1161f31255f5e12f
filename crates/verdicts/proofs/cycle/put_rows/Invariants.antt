use Rattle.std.proofs.Common.{◌≡◌, ◌++◌}
use Rattle.labels.specs.Certified.{lists_of}
use Rattle.verdicts.specs.VerdictText.{labels_text}
use Rattle.verdicts.proofs.cycle.put_rows.Given as goal

abbrev pub invariant-loop-event : goal.invariant-loop-event
invariant-loop-event l = l.out.items ≡ l.fn.out.items ++ labels_text (lists_of l.rows) l.event

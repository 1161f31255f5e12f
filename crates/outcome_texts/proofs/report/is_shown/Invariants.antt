use Rattle.std.proofs.Common.{◌≡◌, drop}
use Rattle.outcome_texts.specs.Report.{is_shown}
use Rattle.outcome_texts.proofs.report.is_shown.Given as goal

abbrev pub invariant-loop-seen : goal.invariant-loop-seen
invariant-loop-seen l = is_shown l.lines l.outcome ≡ is_shown (drop l.seen-index l.lines) l.outcome

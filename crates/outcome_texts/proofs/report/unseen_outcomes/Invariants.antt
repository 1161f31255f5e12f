use Rattle.std.proofs.Common.{◌≡◌, ◌+◌, ◌++◌, ◌≤◌, drop, length}
use Rattle.std.specs.List.{flat_map}
use Rattle.outcome_texts.specs.OutcomeText.{outcome_text}
use Rattle.outcome_texts.specs.Report.{unseen}
use Rattle.outcome_texts.proofs.report.unseen_outcomes.Given as goal

abbrev pub invariant-loop-outcome : goal.invariant-loop-outcome
invariant-loop-outcome l = record {
  count : l.count + length (unseen (drop l.outcome-index l.outcomes) l.lines) ≡ length (unseen l.outcomes l.lines);
  text : l.text.items ++ flat_map (outcome_text l.program) (unseen (drop l.outcome-index l.outcomes) l.lines)
      ≡ flat_map (outcome_text l.program) (unseen l.outcomes l.lines);
  few : l.count ≤ l.outcome-index;
}

use Rattle.std.proofs.Common.{◌≡◌, ◌+◌, ◌++◌, ◌≤◌, drop}
use Rattle.std.specs.List.{flat_map}
use Rattle.outcome_texts.specs.Report.{allowed_count, forbidden_count, seen_line}
use Rattle.outcome_texts.proofs.report.put_lines.Given as goal

abbrev pub invariant-loop-seen : goal.invariant-loop-seen
invariant-loop-seen l = record {
  text : l.out.items ++ flat_map (seen_line l.outcomes) (drop l.seen-index l.lines)
      ≡ l.fn.out.items ++ flat_map (seen_line l.outcomes) l.lines;
  allowed : l.allowed + allowed_count l.outcomes (drop l.seen-index l.lines) ≡ allowed_count l.outcomes l.lines;
  forbidden : l.forbidden + forbidden_count l.outcomes (drop l.seen-index l.lines)
      ≡ forbidden_count l.outcomes l.lines;
  few : l.allowed + l.forbidden ≤ l.seen-index;
}

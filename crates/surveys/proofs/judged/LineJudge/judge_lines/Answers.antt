use Rattle.std.proofs.Common.{List, subst, sym}
use Rattle.ledger.specs.declared.finding.Finding.{Finding}
use Rattle.surveys.specs.Found.{AreFindingsUpTo}
use Rattle.surveys.proofs.LineFindings.{next_found, none_found}
use Rattle.surveys.proofs.judged.LineJudge.judge_lines.Goals as goal

pub lines-init : goal.lines-init
lines-init g c = subst (λ (findings : List Finding). AreFindingsUpTo c.args.self.now.kind c.args.bytes.now c.args.bytes.now findings)
    (sym c.new-findings.ensures.items) (none_found c.args.self.now.kind c.args.bytes.now)

pub lines-preserved : goal.lines-preserved
lines-preserved g c =
    next_found c.args.self.now.kind c.args.bytes.now c.lines.rest.now c.split_line.result.0.now c.split_line.result.1.now
    c.lines.findings.items c.add_finding.new.findings.items c.in_ok-add_finding.ensures.0 c.lines.invariant
    c.split_line.ensures c.in_ok-add_finding.ensures.1 c.in_ok-add_finding.ensures.2

use Rattle.std.proofs.Common.{◌++◌, ◌∙◌, ℕ, List, ap, codes, length}
use Rattle.std.specs.List.{flat_map}
use Rattle.outcome_texts.specs.OutcomeText.{outcome_text}
use Rattle.outcome_texts.specs.Report.{allowed_count, forbidden_count, seen_line, total_line, unseen, unseen_lines}
use Rattle.outcome_texts.proofs.Places.{joined}
use Rattle.outcome_texts.proofs.report.report_on.Goals as goal

pub returns-clause-text : goal.returns-clause-text
returns-clause-text c =
    let os = c.args.outcomes.now in
    let lines = c.args.lines.now in
    let missed = unseen os lines in
    joined (flat_map (seen_line os) lines) (total_line (codes "allowed: ") (allowed_count os lines))
    (total_line (codes "forbidden: ") (forbidden_count os lines))
    (total_line (codes "unseen: ") (length missed)
    ++ unseen_lines c.args.form (flat_map (outcome_text c.args.program.now) missed))
    c.put_lines.new.out.items c.put_total.new.out.items c.put_total-2.new.out.items c.put_unseen.new.out.items
    (c.in_ok-counts.ensures.text ∙ ap (λ (l : List ℕ). l ++ flat_map (seen_line os) lines) c.new-text.ensures.items)
    (c.in_ok-put_total.ensures
    ∙ ap (λ (n : ℕ). c.put_lines.new.out.items ++ total_line (codes "allowed: ") n) c.in_ok-counts.ensures.allowed)
    (c.in_ok-put_total-2.ensures
    ∙ ap (λ (n : ℕ). c.put_total.new.out.items ++ total_line (codes "forbidden: ") n)
    c.in_ok-counts.ensures.forbidden)
    (c.in_ok-put_unseen.ensures
    ∙ (ap (λ (n : ℕ). c.put_total-2.new.out.items
    ++ (total_line (codes "unseen: ") n ++ unseen_lines c.args.form c.in_ok-unseen.unseen.text.items))
    c.in_ok-unseen.ensures.count
    ∙ ap (λ (t : List ℕ). c.put_total-2.new.out.items
    ++ (total_line (codes "unseen: ") (length missed) ++ unseen_lines c.args.form t)) c.in_ok-unseen.ensures.text))

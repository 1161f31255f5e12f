use Rattle.std.proofs.Common.{◌≡◌, ◌++◌, [], List, ℕ, arith, ap, append-nil, length, subst, sym}
use Rattle.std.specs.Io.KnownBytes.{Appends}
use Rattle.ledger.specs.declared.finding.Finding.{Finding}
use Rattle.ledger.specs.Surveyed.{IsSurveyLedger}
use Rattle.surveys.specs.Found.{codes_of}
use Rattle.surveys.specs.Lines.{lines}
use Rattle.surveys.specs.Surveys.{told_text}
use Rattle.surveys.proofs.Found.{few_found, part_joins, part_joined}
use Rattle.surveys.proofs.engine.Engine.add_findings.Goals as goal

-- all lines of the bytes, and nothing after them
whole_cut : (bytes : List ℕ) → lines bytes ≡ lines bytes ++ lines []
whole_cut bytes = sym (append-nil (lines bytes))

pub write_findings-requires : goal.write_findings-requires
write_findings-requires g c =
    let part = c.requires in record {
      numbers = omega (
        arith,
        few_found c.args.self.now.kind part.0 c.args.batch [] (lines c.args.batch) c.in_ok-findings.findings.items
            c.args.ledger.now c.args.self.now.reports part.1 _ part.3 (whole_cut c.args.batch) c.in_ok-findings.ensures,
        part.2,
        ap (λ (fs : List Finding). length fs) c.deref-2.ensures.value,
      );
    }

pub add-requires : goal.add-requires
add-requires g c =
    let part = c.requires in
    let counted = subst (λ (fs : List Finding). IsSurveyLedger (codes_of fs) c.in_ok-more.more) c.deref.ensures.value
    c.in_ok-more.ensures in
    part_joins c.args.self.now.kind part.0 c.args.batch [] (lines c.args.batch) c.in_ok-findings.findings.items
    c.args.ledger.now c.args.self.now.reports part.1 _ part.3 (whole_cut c.args.batch) c.in_ok-findings.ensures
    c.in_ok-more.more counted part.2

pub returns-clause-ok : goal.returns-clause-ok
returns-clause-ok g c = λ all start so_far.
    let counted = subst (λ (fs : List Finding). IsSurveyLedger (codes_of fs) c.in_ok-more.more) c.deref.ensures.value
    c.in_ok-more.ensures in
    let told = subst (λ (fs : List Finding). Appends (g.W.Sink.written c.args.sink.now)
    (g.W.Sink.written c.write_findings.new.sink)
    (told_text c.args.self.now.reports c.args.ledger.now.ledger.total fs)) c.deref-2.ensures.value
    c.in_ok-write_findings.ensures.ok in
    part_joined c.args.self.now.kind all c.args.batch [] (lines c.args.batch) c.in_ok-findings.findings.items
    c.args.ledger.now c.args.self.now.reports start _ so_far (whole_cut c.args.batch) c.in_ok-findings.ensures
    c.in_ok-more.more c.add.new.self _ counted c.add.ensures told

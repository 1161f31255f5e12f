use Rattle.std.proofs.Common.{◌≡◌, Option, subst, sym}
use Rattle.std.specs.Prelude.{IfSome}
use Rattle.headers.specs.declared.header.Header.{Header}
use Rattle.surveys.specs.declared.range.LineRange.{LineRange}
use Rattle.surveys.specs.Lines.{lines}
use Rattle.surveys.specs.Ranges.{lines_in}
use Rattle.commands.specs.Headed.{IsHeaded}
use Rattle.commands.proofs.Given.{lines_given}
use Rattle.commands.proofs.survey_command.survey_command.Goals as goal

pub returns-in_ok-with_header-in-None-clause-ok : goal.returns-in_ok-with_header-in-None-clause-ok
returns-in_ok-with_header-in-None-clause-ok g c =
    let (findings, surveyed, told) = c.in_ok-ledger-in-None.ensures.ok in
    let counts = c.in_ok-counts-in-None.counts in rw c.in-None.is (
      λ each. c.requires.told (each, c.in-None.is),
      findings,
      c.in_ok-ledger-in-None.ledger,
      surveyed,
      counts,
      c.in_ok-counts-in-None.ensures,
      subst (λ (header : Option Header). IsHeaded header counts c.in_ok-with_header-in-None.field-0) c.survey_header.ensures
          c.in_ok-with_header-in-None.ensures,
    )

pub returns-in_ok-answer_to_line-in-Ok-Some-clause-ok : goal.returns-in_ok-answer_to_line-in-Ok-Some-clause-ok
returns-in_ok-answer_to_line-in-Ok-Some-clause-ok g c =
    let r = rw c.in-Ok-Some.field-0-is at c.in-Ok-Some.ensures.read in
    let new = c.new-lines.ensures in
    let given = lines_given c.range_of.result _ _ (g.H.Host.bytes c.args.host.now c.as_str.result.now) _ _ r.bytes
    new.before new.count new.lines (rw new.source c.in_ok-input-in-Some.ensures.given) r.read
    c.in-Ok-Some.ensures.all in rw c.in-Some.is (
      lines r.bytes,
      rw (sym c.as_str.ensures.value) (subst (λ (range : LineRange). IfSome
          (g.H.Host.bytes c.args.host.now c.as_str.result.now) (λ bytes. lines r.bytes ≡ lines_in range bytes))
          c.range_of.ensures given),
      c.as_slice.result.now,
      rw c.as_slice.ensures.value r.is,
      c.in_ok-answer_to_line-in-Ok-Some.ensures,
    )

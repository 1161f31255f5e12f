use Rattle.std.proofs.Common.{◌≡◌, subst, sym}
use Rattle.std.specs.Prelude.{IfSome}
use Rattle.surveys.specs.declared.kind.LineKind.{LineKind}
use Rattle.surveys.specs.declared.range.LineRange.{LineRange}
use Rattle.surveys.specs.Found.{AreFindings}
use Rattle.surveys.specs.Lines.{lines}
use Rattle.surveys.specs.Ranges.{lines_in}
use Rattle.commands.proofs.Given.{lines_given}
use Rattle.commands.proofs.survey_command.count_recordings.Goals as goal

pub returns-in-Ok-clause-ok : goal.returns-in-Ok-clause-ok
returns-in-Ok-clause-ok g c =
    let s = c.in-Ok.ensures.whole in
    let new = c.new-lines.ensures in
    let given = lines_given c.range_of.result _ _ (g.H.Host.bytes c.args.host.now c.as_str.result.now) _ _ s.bytes
    new.before new.count new.lines (rw new.source c.in_ok-input.ensures.given) s.read c.in-Ok.ensures.all in (
      s.survey.findings,
      record {
        all = lines s.bytes;
        given = rw (sym c.as_str.ensures.value) (subst (λ (range : LineRange). IfSome
            (g.H.Host.bytes c.args.host.now c.as_str.result.now) (λ bytes. lines s.bytes ≡ lines_in range bytes))
            c.range_of.ensures given);
        found = subst (λ (kind : LineKind). AreFindings kind (lines s.bytes) s.survey.findings)
            c.line_kind-kind.ensures s.survey.found;
        counted = s.survey.counted;
      },
      s.survey.told,
    )

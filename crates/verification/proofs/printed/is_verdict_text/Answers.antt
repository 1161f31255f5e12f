use Rattle.std.proofs.Common.{◌∙◌, subst, sym}
use Rattle.verdicts.specs.VerdictText.{IsVerdictText}
use Rattle.verification.proofs.OneText.{verdict_one}
use Rattle.verification.proofs.printed.is_verdict_text.Goals as goal

pub returns : goal.returns
returns c =
    let x = c.args.recording.now in
    let v = c.args.verdict.now in
    let printed = c.deref.ensures.value in (
      λ is. subst (IsVerdictText x v) (sym (c.is_printed.ensures.0 is ∙ printed)) c.in_ok-printed.ensures,
      λ text. c.is_printed.ensures.1
          (verdict_one x v c.args.text.now c.in_ok-printed.printed.items text c.in_ok-printed.ensures ∙ sym printed),
    )

use Rattle.std.proofs.Common.{◌∙◌, refl, sym}
use Rattle.std.proofs.lemmas.Bool.{false≢true}
use Rattle.verdicts.specs.VerdictText.{IsVerdictText}
use Rattle.verification.specs.Proof.{IsProof}
use Rattle.verification.proofs.Judged.{fails_read, holds_read, never_holds, none_read, tests_same}
use Rattle.verification.proofs.text.is_proof.Goals as goal

pub returns-in_default : goal.returns-in_default
returns-in_default g c =
    let x = c.args.recording.now in
    let text = c.args.text.now in
    never_holds (IsProof x text) (none_read x text c.in_ok-verdict.field-0 c.in_default.is c.in_ok-verdict.ensures.only)

pub returns-then-not-holds : goal.returns-then-not-holds
returns-then-not-holds g c =
    let x = c.args.recording.now in
    let text = c.args.text.now in
    never_holds (IsProof x text) (fails_read x text c.in_ok-verdict.field-0 c.in-Some.verdict c.in-Some.is
    c.in_ok-verdict.ensures.only (λ verified. false≢true (sym c.if-not-holds.true
    ∙ (c.requires.says c.in-Some.verdict _ (_, c.in_ok-holds.ensures, refl)).1 verified)))

pub returns : goal.returns
returns g c =
    let x = c.args.recording.now in
    let text = c.args.text.now in
    let v = c.in-Some.verdict in
    tests_same (IsVerdictText x v text) (IsProof x text) (holds_read x text c.in_ok-verdict.field-0 v c.in-Some.is
    c.in_ok-verdict.ensures.only ((c.requires.says v _ (_, c.in_ok-holds.ensures, refl)).0 c.if-not-holds.false)
    (rw c.in-Some.is at c.in_ok-verdict.ensures.short)) c.is_verdict_text.result c.is_verdict_text.ensures

pub is_verdict_text-requires : goal.is_verdict_text-requires
is_verdict_text-requires g c =
    (c.requires.says c.in-Some.verdict _ (_, c.in_ok-holds.ensures, refl)).0 c.if-not-holds.false

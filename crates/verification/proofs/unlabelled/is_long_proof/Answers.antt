use Rattle.std.proofs.Common.{◌≡◌, ◌++◌, ◌∙◌, List, ℕ, Ok, ap, subst, sym}
use Rattle.std.proofs.lemmas.Bool.{false≢true}
use Rattle.long.specs.Texts.{IsLongText}
use Rattle.verification.specs.Proof.{IsLongProof}
use Rattle.verification.proofs.Judged.{answer_fails, answer_holds_read, never_holds, no_answer_read, tests_same}
use Rattle.verification.proofs.OneText.{answer_one}
use Rattle.verification.proofs.unlabelled.is_long_proof.Goals as goal

pub returns-in_default : goal.returns-in_default
returns-in_default c =
    let x = c.args.recording.now in
    let text = c.args.text.now in
    never_holds (IsLongProof x text)
    (no_answer_read x text c.in_ok-answer.field-0 c.in_default.is c.in_ok-answer.ensures)

pub returns-then-not-holds : goal.returns-then-not-holds
returns-then-not-holds c =
    let x = c.args.recording.now in
    let text = c.args.text.now in
    never_holds (IsLongProof x text) (answer_fails x text c.in_ok-answer.field-0 c.in-Some.answer c.in-Some.is
    c.in_ok-answer.ensures (λ witness. false≢true (sym c.if-not-holds.true ∙ c.in_ok-holds.ensures.exact.1 witness)))

pub returns : goal.returns
returns c =
    let x = c.args.recording.now in
    let text = c.args.text.now in
    let a = c.in-Some.answer in
    let told = c.in_ok-holds.ensures.text c.if-not-holds.false in
    let printed : c.deref.result.now ≡ told.0 =
    c.deref.ensures.value ∙ told.2 ∙ ap (λ (t : List ℕ). t ++ told.0) c.new-printed.ensures.items in
    tests_same (IsLongText x a text) (IsLongProof x text) (answer_holds_read x text c.in_ok-answer.field-0 a
    c.in-Some.is c.in_ok-answer.ensures (c.in_ok-holds.ensures.exact.0 c.if-not-holds.false)) (Ok c.is_printed.result) (
      λ is. subst (IsLongText x a) (sym (c.is_printed.ensures.0 is ∙ printed)) told.1,
      λ other. c.is_printed.ensures.1 (answer_one x a text told.0 other told.1 ∙ sym printed),
    )

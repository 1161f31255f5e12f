use Rattle.std.proofs.Common.{◌≡◌, ◌∙◌, ℕ, List, Some, ap, inl, inr, refl, subst, sym}
use Rattle.std.specs.Prelude.{string_bytes}
use Rattle.command_line.specs.declared.options.JudgeOptions.{JudgeOptions}
use Rattle.recording.specs.declared.size.RecordingSize.TheVariants.{Short}
use Rattle.recording.specs.RecordingLaws.{recording_of_size}
use Rattle.verdicts.specs.declared.printed.Answer.{Answer}
use Rattle.verdicts.specs.VerdictText.{IsVerdictText}
use Rattle.text_judge.specs.Answer.{IsAnswerOf}
use Rattle.verification.specs.Proof.{EveryVerdictHolds}
use Rattle.inputs.specs.Inputs.{AreBytesOf, Inputs}
use Rattle.commands.specs.Judge.{AnswerHolds, IsFileAnswer}
use Rattle.commands.proofs.Given.{all_given}
use Rattle.commands.proofs.judge_command.judge_command.Goals as goal

-- an answer with the same outcome and text is one, too
answer_again : (bytes : List ℕ) (a b : Answer) → b.outcome ≡ a.outcome → b.text.items ≡ a.text.items
    → IsAnswerOf bytes a → IsAnswerOf bytes b
answer_again bytes a b out text (inl (x, read, verdict, found, outcome, printed)) =
    inl (x, read, verdict, found, out ∙ outcome, subst (λ (t : List ℕ). IsVerdictText x verdict t) (sym text) printed)
answer_again bytes a b out text (inr refused) = inr record {
  fault = refused.fault;
  read = refused.read;
  outcome = out ∙ refused.outcome;
  line = refused.line ∙ ap (λ (t : List ℕ). Some t) (sym text);
}

-- what judge answers holds, since every text of a verdict does
answer_holds : EveryVerdictHolds → (inputs : Inputs) (o : JudgeOptions) (bytes : List ℕ)
    (answer : Answer) → AreBytesOf inputs (string_bytes o.file) bytes → IsAnswerOf bytes answer
    → IsFileAnswer inputs o answer
answer_holds law inputs o bytes answer given is = (bytes, given, (is, go is))
  where
    go : IsAnswerOf bytes answer → AnswerHolds bytes answer
    go (inl (x, read, verdict, found, outcome, printed)) told = (
      x,
      read,
      law x answer.text.items (recording_of_size Short x read.3) read.3.within.few_events
          (record { verdict = verdict; printed = printed; found = found }),
    )
    go (inr refused) told = absurd (told refused.outcome)

pub returns-in-Ok-clause-ok : goal.returns-in-Ok-clause-ok
returns-in-Ok-clause-ok g c =
    let (bytes, read, (answer, is, out, written)) = c.in-Ok.ensures.whole in
    let text : c.into_written.result.items ≡ answer.text.items =
    rw (c.into_written.ensures, written, c.new-out.ensures.written) refl in
    answer_holds c.every_verdict_holds.ensures (g.H.Host.bytes c.args.host.now) c.args.options.now bytes _
    (all_given _ _ _ bytes (rw c.as_str.ensures.value at c.in_ok-input.ensures.given) read c.in-Ok.ensures.all)
    (answer_again bytes answer _ out text is)

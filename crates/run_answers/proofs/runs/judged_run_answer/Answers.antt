use Rattle.std.proofs.Common.{◌≡◌, ◌++◌, ◌∙◌, ℕ, List, Option, ap, inl, subst, sym}
use Rattle.std.proofs.lemmas.Result.{IfOk-weaker}
use Rattle.program.specs.Parts.{Parts}
use Rattle.recording.specs.Execution.{Execution}
use Rattle.recorder.specs.Text.{recording_text}
use Rattle.recording.specs.Tso.{IsTsoOrder}
use Rattle.program.specs.declared.fault.Fault.{Fault}
use Rattle.program.specs.declared.fault.Fault.TheVariants as faults
use Rattle.machine.specs.State.{State, IsComplete, recorded}
use Rattle.trials.specs.declared.judging.Judged.{Judged}
use Rattle.trials.specs.Judged.{IsJudgement, IsJudgedEnd}
use Rattle.verdicts.specs.declared.verdict.Verdict.{Verdict}
use Rattle.verdicts.specs.declared.verdict.Verdict.TheVariants.{Ordered, Overlook, Cycle}
use Rattle.verdicts.specs.Judgement.{IsVerdict}
use Rattle.verdicts.specs.VerdictText.{IsVerdictText}
use Rattle.verdicts.specs.declared.printed.Answer.{Answer}
use Rattle.verdicts.specs.declared.outcome.Outcome.TheVariants as outcome
use Rattle.verdicts.specs.VerdictAnswer.{IsVerdictAnswer, outcome_of}
use Rattle.run_answers.specs.Run.{IsOrderedAnswer, IsRunAnswer}
use Rattle.run_answers.proofs.runs.judged_run_answer.Goals as goal

-- what TSO allows has its least order
ordered_answer : (x : Execution) (m : List ℕ) (answer : Answer) → IsTsoOrder x m
    → IsVerdictAnswer x (recording_text x) answer → IsOrderedAnswer x answer
ordered_answer x m answer tso is = go is.verdict is.found is.outcome is.printed
  where
    go : (v : Verdict) → IsVerdict x v → answer.outcome ≡ outcome_of v → IsVerdictText x v is.lines
        → IsOrderedAnswer x answer
    go (Ordered order) found outcome printed = record {
      order = order.items;
      least = found;
      outcome = outcome;
      text = is.text ∙ ap (λ (lines : List ℕ). recording_text x ++ lines) printed;
    }
    go (Overlook load store) found outcome printed = absurd (found.no_order m tso)
    go (Cycle certificate) found outcome printed = absurd (found.no_order m tso)

-- no verdict comes out as an unfinished run
verdict_is_final : (v : Verdict) → outcome_of v ≡ outcome.Unfinished → ⊥
verdict_is_final (Ordered order) e = let clash : outcome.Ordered ≡ outcome.Unfinished = e in cc
verdict_is_final (Overlook load store) e = let clash : outcome.Violation ≡ outcome.Unfinished = e in cc
verdict_is_final (Cycle certificate) e = let clash : outcome.Violation ≡ outcome.Unfinished = e in cc

-- the recording of a complete run and the verdict on it are the answer of the run
complete_answer : (fault : Fault) (p : Parts) (s : State) (answer : Answer) → IsComplete p.cores s
    → (fault ≡ faults.None → IsTsoOrder (recorded p.cores s) s.performed)
    → IsVerdictAnswer (recorded p.cores s) (recording_text (recorded p.cores s)) answer
    → IsRunAnswer fault p s answer
complete_answer fault p s answer end tso found = record {
  judged = λ complete. found;
  unfinished = λ left. absurd (left end);
  incomplete = λ left complete. verdict_is_final found.verdict (sym found.outcome ∙ left);
  faultless = λ none.
      let made : IsOrderedAnswer (recorded p.cores s) answer =
      ordered_answer (recorded p.cores s) s.performed answer (tso none) found in
      record { outcome = inl made.outcome; done = λ complete. made; tso = λ done. tso none };
}

-- the machine is complete
pub returns-in_ok-text-in-Some : goal.returns-in_ok-text-in-Some
returns-in_ok-text-in-Some c =
    IfOk-weaker c.verdict_answer.result _ _ (λ answer found h ends.
    let judged : IsJudgement h c.in-Some.field-0 = subst (λ (o : Option Judged). IsJudgedEnd h o) c.in-Some.is ends in
    complete_answer h.fault h.program h.state answer judged.complete judged.tso
    (subst (λ (x : Execution). IsVerdictAnswer x (recording_text x) answer) judged.recording
    (subst (λ (t : List ℕ). IsVerdictAnswer c.in-Some.field-0.recording t answer) c.in_ok-text-in-Some.ensures.text
    found)))
    c.verdict_answer.ensures

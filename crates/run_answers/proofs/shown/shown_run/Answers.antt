use Rattle.std.proofs.Common.{◌≡◌, ◌∙◌, ℕ, List, None, Option, Some, append_assoc, refl, sym}
use Rattle.program.specs.Parts.{Parts}
use Rattle.recording.specs.Execution.{Execution}
use Rattle.relations.specs.Consistency.{HasNoOrder}
use Rattle.machine.specs.Configuration.{Configuration, IsAtEnd, recording_of}
use Rattle.verdicts.specs.declared.verdict.Verdict.{Verdict}
use Rattle.verdicts.specs.declared.verdict.Verdict.TheVariants.{Ordered, Overlook, Cycle}
use Rattle.verdicts.specs.Judgement.{IsVerdict}
use Rattle.reduction.specs.Needed.{IsReduction}
use Rattle.verdicts.specs.declared.printed.Answer.{Answer}
use Rattle.answers.specs.Reduced.{IsCutAnswer}
use Rattle.run_answers.proofs.shown.shown_run.Goals as goal

-- what is cut down is a violation
cut_violates : (x : Execution) (p : Option Parts) (headed : Option (List (List ℕ))) (answer : Answer) → IsCutAnswer x p headed answer
    → HasNoOrder x
cut_violates x p headed answer cut = go cut.verdict cut.reduction cut.found
  where
    go : (v : Verdict) → IsReduction x v cut.events cut.rest → IsVerdict x v → HasNoOrder x
    go (Ordered m) r found = absurd r.verdict
    go (Overlook l s) r found = found.no_order
    go (Cycle c) r found = found.no_order

pub cut_end-requires : goal.cut_end-requires
cut_end-requires c =
    (c.args.machine, sym (c.in_ok-program.ensures ∙ c.program.ensures), c.in_ok-judged.ensures)

pub judged_run_answer-requires : goal.judged_run_answer-requires
judged_run_answer-requires c = (c.args.machine, c.in_ok-judged.ensures)

pub returns-in-Some : goal.returns-in-Some
returns-in-Some c =
    let h : Configuration = c.args.machine in
    let cut : IsAtEnd h × IsCutAnswer (recording_of h) (Some h.program) None c.in-Some.answer =
    (rw c.in-Some.is at c.in_ok-answer.ensures.some) h
    (sym (c.in_ok-program.ensures ∙ c.program.ensures)) c.in_ok-judged.ensures in
    record {
      whole = λ none. absurd (none (rw c.in-Some.is at c.in_ok-answer.ensures.asked)
          (cut.0, cut_violates (recording_of h) (Some h.program) None c.in-Some.answer cut.1));
      cut = λ yes violation. cut.1;
    }

pub returns : goal.returns
returns c =
    let h : Configuration = c.args.machine in
    let program : h.program ≡ c.in_ok-program.program = sym (c.in_ok-program.ensures ∙ c.program.ensures) in record {
      whole = λ none. record {
        run = c.in_ok-run-in-None.run';
        answered = c.in_ok-run-in-None.ensures h c.in_ok-judged.ensures;
        outcome = refl;
        text = rw (
          c.in_ok-extend_from_slice-in-None.ensures.items,
          c.in_ok-push-in-None.ensures.items,
          c.deref.ensures.value,
          c.in_ok-text-in-None.ensures,
          program,
        ) (simp append_assoc);
      };
      cut = λ yes violation. absurd ((rw c.in-None.is at c.in_ok-answer.ensures.none) yes h program
          c.in_ok-judged.ensures violation);
    }

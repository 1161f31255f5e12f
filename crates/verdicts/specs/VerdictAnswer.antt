-- What is answered of a verdict.
use Rattle.std.specs.Prelude.{◌≡◌, ◌++◌, List, ℕ}
use Rattle.recording.specs.Execution.{Execution}
use Rattle.verdicts.specs.declared.outcome.Outcome.{Outcome}
use Rattle.verdicts.specs.declared.outcome.Outcome.TheVariants.{Ordered, Violation}
use Rattle.verdicts.specs.declared.printed.Answer.{Answer}
use Rattle.verdicts.specs.declared.verdict.Verdict.{Verdict}
use Rattle.verdicts.specs.declared.verdict.Verdict.TheVariants as verdict
use Rattle.verdicts.specs.Judgement.{IsVerdict}
use Rattle.verdicts.specs.VerdictText.{IsVerdictText}

-- only an order is no violation
abbrev pub outcome_of : Verdict → Outcome
outcome_of (verdict.Ordered order) = Ordered
outcome_of (verdict.Overlook load store) = Violation
outcome_of (verdict.Cycle certificate) = Violation

-- the verdict on a recording, and its text after what is printed before
pub record IsVerdictAnswer (x : Execution) (before : List ℕ) (answer : Answer) : Type 0 where
  pub verdict : Verdict
  pub found : IsVerdict x verdict
  pub outcome : answer.outcome ≡ outcome_of verdict
  pub lines : List ℕ
  pub printed : IsVerdictText x verdict lines
  pub text : answer.text.items ≡ before ++ lines

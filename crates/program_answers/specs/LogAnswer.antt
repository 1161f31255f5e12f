-- What is answered of a log.
use Rattle.std.specs.Prelude.{◌++◌, ℕ, List}
use Rattle.program.specs.Parts.{Parts}
use Rattle.outcomes.specs.Outcome.{Outcome}
use Rattle.outcome_texts.specs.Report.{forbidden_count, report_text}
use Rattle.outcome_texts.specs.Seen.{Seen}
use Rattle.verdicts.specs.declared.printed.Answer.{Answer}
use Rattle.program_answers.specs.declared.outcome_answers.LogDetails.{LogDetails}
use Rattle.program_answers.specs.Outcomes.{IsByOutcomes, IsText, log_outcome}
use Rattle.program_answers.specs.Why.{IsWhyAsked}

-- the report on what a log says, by all outcomes of a program, and perhaps why the first line is forbidden
pub record IsLogReport (p : Parts) (states : ℕ) (lines : List Seen) (details : LogDetails) (os : List Outcome)
    (answer : Answer) : Type 0 where
  pub why : List ℕ
  pub is_why : IsWhyAsked details.why states p os lines why
  pub said : IsText (log_outcome (forbidden_count os lines)) (report_text details.unseen p os lines ++ why) answer

-- the report on what a log says
abbrev pub IsLogAnswer : Parts → ℕ → List Seen → LogDetails → Answer → Type 0
IsLogAnswer p states lines details answer = IsByOutcomes p states (IsLogReport p states lines details) answer

-- What is answered of surveys.
use Rattle.std.specs.Prelude.{◌≡◌, ◌⊎◌, ◌++◌, ◌∷◌, [], ℕ, List, None, Ok, if◌then◌else◌, is_some, nat_lt}
use Rattle.recording.specs.Execution.{Execution}
use Rattle.recorder.specs.Reading.{IsReadingResult}
use Rattle.ledger.specs.declared.ledger.Ledger.{Ledger}
use Rattle.ledger.specs.declared.survey_ledger.SurveyLedger.{SurveyLedger}
use Rattle.text_judge.specs.Answer.{IsAnswerOf, IsRefusedAnswer}
use Rattle.ledger.specs.Counted.{survey_text, values_survey_text}
use Rattle.verdicts.specs.declared.printed.Answer.{Answer}
use Rattle.verdicts.specs.declared.outcome.Outcome.{Outcome}
use Rattle.verdicts.specs.declared.outcome.Outcome.TheVariants.{Done, Refused, Unfinished, Violation}
use Rattle.answers.specs.declared.campaigns.CountsPlace.{CountsPlace}
use Rattle.answers.specs.declared.campaigns.CountsPlace.TheVariants.{Alone, AfterLines}
use Rattle.answers.specs.declared.reduced.ViolationForm.{ViolationForm}
use Rattle.answers.specs.declared.reduced.ViolationForm.TheVariants.{Whole, Reduced}
use Rattle.answers.specs.Campaign.{ledger_outcome}
use Rattle.answers.specs.Reduced.{IsReducedAnswer}

-- what stands between counts and what comes before them: an empty line after lines of recordings
abbrev pub empty_line : CountsPlace → List ℕ
empty_line Alone = []
empty_line AfterLines = 10 ∷ []

-- the counts of a ledger, and how they come out
pub record IsSurveyAnswer (place : CountsPlace) (l : Ledger) (answer : Answer) : Type 0 where
  pub outcome : answer.outcome ≡ ledger_outcome Refused l
  pub text : answer.text.items ≡ empty_line place ++ survey_text l

-- a violation where some values are impossible, else refused where some are unread, else unfinished where some are
abbrev pub values_outcome : SurveyLedger → Outcome
values_outcome l = if is_some l.ledger.first then Violation
    else (if nat_lt 0 l.unread.count then Refused
    else (if nat_lt 0 l.unfinished.count then Unfinished else Done))

-- the counts of a survey of values, and how they come out
pub record IsValuesSurveyAnswer (place : CountsPlace) (l : SurveyLedger) (answer : Answer) : Type 0 where
  pub outcome : answer.outcome ≡ values_outcome l
  pub text : answer.text.items ≡ empty_line place ++ values_survey_text l

-- what is answered to the bytes of one recording: its verdict, or what is left of its violation, or its refusal
abbrev pub IsLineAnswer : ViolationForm → List ℕ → Answer → Type 0
IsLineAnswer Whole bytes answer = IsAnswerOf bytes answer
IsLineAnswer Reduced bytes answer = ((x : Execution) × IsReadingResult bytes (Ok x) × IsReducedAnswer x None [] answer)
    ⊎ IsRefusedAnswer bytes answer

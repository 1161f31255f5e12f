-- What is answered of the values of a run, by their text.
use Rattle.std.specs.Prelude.{◌≡◌, ◌⊎◌, ℕ, List, Some, Ok, Err}
use Rattle.recording.specs.declared.fault.RecError.{RecError}
use Rattle.values.specs.Values.{Values}
use Rattle.values_text.specs.Reading.{IsValuesReading}
use Rattle.verdicts.specs.Refusal.{recording_line}
use Rattle.verdicts.specs.declared.outcome.Outcome.TheVariants.{Refused}
use Rattle.verdicts.specs.declared.printed.Answer.{Answer}
use Rattle.program_answers.specs.Completion.{IsCompletionAnswer}
use Rattle.tsotest_library.specs.Refused.{AreStatesRefused}

-- what the values of a text come to, where no more states are seen
pub record IsCompletedText (text : List ℕ) (states : ℕ) (answer : Answer) : Type 0 where
  pub values : Values
  pub read : IsValuesReading text (Ok values)
  pub answered : IsCompletionAnswer values states answer

-- the refusal that the text has, and its line
pub record IsValuesRefused (text : List ℕ) (answer : Answer) : Type 0 where
  pub refusal : RecError
  pub read : IsValuesReading text (Err refusal)
  pub outcome : answer.outcome ≡ Refused
  pub line : recording_line refusal ≡ Some answer.text.items

-- what the values of a text come to, or that the number or the text is refused
abbrev pub IsCompletedOf : List ℕ → ℕ → Answer → Type 0
IsCompletedOf text states answer =
    AreStatesRefused states answer ⊎ (IsCompletedText text states answer ⊎ IsValuesRefused text answer)

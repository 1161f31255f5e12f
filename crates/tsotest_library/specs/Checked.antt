-- What is answered to a verdict from anywhere.
use Rattle.std.specs.Prelude.{◌⊎◌, ℕ, List, Ok}
use Rattle.recording.specs.Execution.{Execution}
use Rattle.recorder.specs.Reading.{IsReadingResult}
use Rattle.verdicts.specs.declared.printed.Answer.{Answer}
use Rattle.text_judge.specs.Answer.{IsRefusedAnswer}
use Rattle.verification.specs.Checked.{AnswersLine, IsCheckAnswer}
use Rattle.verification.specs.Faults.{LinesHold}
use Rattle.verification.specs.Proof.{IsProof}

-- the answer to a text, of the recording that the bytes are
pub record IsChecked (bytes text : List ℕ) (answer : Answer) : Type 0 where
  pub recording : Execution
  pub read : IsReadingResult bytes (Ok recording)
  pub answered : IsCheckAnswer (IsProof recording text) answer
  pub line : AnswersLine (LinesHold recording) text answer

-- it, or that the bytes are refused
abbrev pub IsCheckOf : List ℕ → List ℕ → Answer → Type 0
IsCheckOf bytes text answer = IsChecked bytes text answer ⊎ IsRefusedAnswer bytes answer

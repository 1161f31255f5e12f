-- What is answered to the bytes of a recording.
use Rattle.std.specs.Prelude.{◌≡◌, ◌⊎◌, ℕ, List, Some, Result, Ok, Err}
use Rattle.recording.specs.declared.fault.RecError.{RecError}
use Rattle.recording.specs.declared.recording.Recording.{Recording}
use Rattle.recording.specs.Execution.{Execution}
use Rattle.recording.specs.declared.size.RecordingSize.{RecordingSize}
use Rattle.recording.specs.declared.size.RecordingSize.TheVariants.{Short, Long}
use Rattle.recorder.specs.Reading.{IsReadingOf, IsReadingResult}
use Rattle.long.specs.declared.answer.LongAnswer.{LongAnswer}
use Rattle.long.specs.Answer.{IsLongAnswer}
use Rattle.long.specs.Texts.{IsLongText, long_outcome}
use Rattle.verdicts.specs.declared.printed.Answer.{Answer}
use Rattle.verdicts.specs.declared.outcome.Outcome.TheVariants.{Refused}
use Rattle.verdicts.specs.Refusal.{recording_line}
use Rattle.verdicts.specs.declared.verdict.Verdict.{Verdict}
use Rattle.verdicts.specs.Judgement.{IsVerdict}
use Rattle.verdicts.specs.VerdictAnswer.{outcome_of}
use Rattle.verdicts.specs.VerdictText.{IsVerdictText}

-- the refusal that the bytes have as a recording of a size, and its line
pub record IsRefusedOf (size : RecordingSize) (bytes : List ℕ) (answer : Answer) : Type 0 where
  pub fault : RecError
  pub read : IsReadingOf size bytes (Err fault)
  pub outcome : answer.outcome ≡ Refused
  pub line : recording_line fault ≡ Some answer.text.items

-- the refusal that the bytes have as a short recording, and its line
abbrev pub IsRefusedAnswer : List ℕ → Answer → Type 0
IsRefusedAnswer bytes answer = IsRefusedOf Short bytes answer

-- the recording of a size that the bytes are, or the answer to their refusal
abbrev pub IsReadOrRefused : RecordingSize → List ℕ → Result Recording Answer → Type 0
IsReadOrRefused size bytes (Ok recording) = IsReadingOf size bytes (Ok recording)
IsReadOrRefused size bytes (Err answer) = IsRefusedOf size bytes answer

-- what is answered to the bytes: the text of the verdict on the recording that they are, or their refusal
abbrev pub IsAnswerOf : List ℕ → Answer → Type 0
IsAnswerOf bytes answer = ((x : Execution) × IsReadingResult bytes (Ok x) × (verdict : Verdict) × IsVerdict x verdict
    × (answer.outcome ≡ outcome_of verdict) × IsVerdictText x verdict answer.text.items) ⊎ IsRefusedAnswer bytes answer

-- what is answered to a long recording: the text of an answer to it
abbrev pub IsLongAnswerTo : Execution → Answer → Type 0
IsLongAnswerTo x answer = (found : LongAnswer) × IsLongAnswer x found × (answer.outcome ≡ long_outcome found)
    × IsLongText x found answer.text.items

-- what is answered to the bytes as a long recording: the text of an answer to the recording that they are, or their
-- refusal
abbrev pub IsLongAnswerOf : List ℕ → Answer → Type 0
IsLongAnswerOf bytes answer = ((x : Execution) × IsReadingOf Long bytes (Ok x) × IsLongAnswerTo x answer)
    ⊎ IsRefusedOf Long bytes answer

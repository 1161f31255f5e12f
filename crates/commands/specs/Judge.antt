-- What judge and verify answer.
use Rattle.std.specs.Prelude.{◌≢◌, ◌⊎◌, ℕ, List, Option, Ok, string_bytes}
use Rattle.command_line.specs.declared.options.FileOptions.{FileOptions}
use Rattle.command_line.specs.declared.options.JudgeOptions.{JudgeOptions}
use Rattle.command_line.specs.declared.options.VerifyOptions.{VerifyOptions}
use Rattle.recording.specs.declared.size.RecordingSize.{RecordingSize}
use Rattle.recording.specs.declared.size.RecordingSize.TheVariants.{Short, Long}
use Rattle.recording.specs.Execution.{Execution}
use Rattle.recorder.specs.Reading.{IsReadingResult}
use Rattle.verdicts.specs.declared.outcome.Outcome.TheVariants.{Refused}
use Rattle.verdicts.specs.declared.printed.Answer.{Answer}
use Rattle.text_judge.specs.Answer.{IsAnswerOf, IsLongAnswerOf}
use Rattle.verification.specs.Checked.{AnswersLine, IsCheckAnswer}
use Rattle.verification.specs.Faults.{LinesHold, LongLinesHold, longest_cycle}
use Rattle.verification.specs.Proof.{IsLongProof, IsProof}
use Rattle.inputs.specs.declared.command_stop.CommandStop.{CommandStop}
use Rattle.inputs.specs.Inputs.{Inputs, IsInputError, OfBytes}
use Rattle.inputs.specs.Named.{IsRecordingStop, OfRecording}
use Rattle.inputs.specs.Refusal.{IsFailure}

-- the text of an answer to the bytes of a recording, unless it refuses them, holds of it
abbrev pub AnswerHolds : List ℕ → Answer → Type 0
AnswerHolds bytes answer = answer.outcome ≢ Refused → (x : Execution) × IsReadingResult bytes (Ok x)
    × IsProof x answer.text.items

-- the answer to the bytes of the named input, which holds
abbrev pub IsFileAnswer : Inputs → JudgeOptions → Answer → Type 0
IsFileAnswer inputs o answer = OfBytes inputs (string_bytes o.file)
    (λ bytes. IsAnswerOf bytes answer × AnswerHolds bytes answer)

-- the answer to the bytes of the named input as a long recording
abbrev pub IsLongFileAnswer : Inputs → FileOptions → Answer → Type 0
IsLongFileAnswer inputs o answer = OfBytes inputs (string_bytes o.file) (λ bytes. IsLongAnswerOf bytes answer)

-- a text is a proof of a verdict on a short recording, or of an answer to a long one
abbrev pub IsProofOf : RecordingSize → Execution → List ℕ → Type 0
IsProofOf Short x text = IsProof x text
IsProofOf Long x text = IsLongProof x text

-- lines hold of a short recording, or, as lines of this text, of a long one
abbrev pub HoldLines : RecordingSize → Execution → List ℕ → List ℕ → Type 0
HoldLines Short x text = LinesHold x
HoldLines Long x text = LongLinesHold x (longest_cycle text)

-- the answer to a text of a recording of this size: whether it is a proof, and else which line is at fault
pub record IsTextAnswer (size : RecordingSize) (x : Execution) (text : List ℕ) (answer : Answer) : Type 0 where
  pub proof : IsCheckAnswer (IsProofOf size x text) answer
  pub line : AnswersLine (HoldLines size x text) text answer

-- the answer to the text of the second input, of the recording of the first
abbrev pub IsVerified : Inputs → VerifyOptions → Answer → Type 0
IsVerified inputs o answer = OfRecording inputs (string_bytes o.recording) o.size
    (λ x. OfBytes inputs (string_bytes o.verdict) (λ text. IsTextAnswer o.size x text answer))

-- why a text is not checked: the recording is refused or isn't read, or the text isn't
abbrev pub IsVerifyStop : Inputs → VerifyOptions → CommandStop → Type 0
IsVerifyStop inputs o stop = IsRecordingStop inputs (string_bytes o.recording) o.size stop
    ⊎ IsFailure (IsInputError inputs (string_bytes o.verdict)) stop

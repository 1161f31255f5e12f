-- What is answered of a violation of any length that is cut down to the events that it needs.
use Rattle.std.specs.Prelude.{◌≡◌, ◌++◌, [], ℕ, Some, List}
use Rattle.recording.specs.Execution.{Execution}
use Rattle.recording.specs.Recording.{IsShortRecording}
use Rattle.recording.specs.Tso.{IsTsoOrder}
use Rattle.recorder.specs.Text.{recording_text}
use Rattle.relations.specs.Consistency.{HasNoOrder}
use Rattle.long.specs.declared.answer.LongAnswer.{LongAnswer}
use Rattle.long.specs.Answer.{IsLongAnswer}
use Rattle.long.specs.Texts.{IsLongText, long_outcome}
use Rattle.reduction.specs.Long.{IsLongReduction}
use Rattle.program_events.specs.NamedProgram.{named_program}
use Rattle.verdicts.specs.declared.printed.Answer.{Answer}
use Rattle.verdicts.specs.declared.outcome.Outcome.TheVariants.{Violation}
use Rattle.verdicts.specs.VerdictAnswer.{IsVerdictAnswer}
use Rattle.answers.specs.Reduced.{heading, shown_text}

-- what is answered to a recording of any length, and its text after what is printed before
pub record IsLongTextAnswer (x : Execution) (before : List ℕ) (answer : Answer) : Type 0 where
  pub found : LongAnswer
  pub is : IsLongAnswer x found
  pub outcome : answer.outcome ≡ long_outcome found
  pub lines : List ℕ
  pub printed : IsLongText x found lines
  pub text : answer.text.items ≡ before ++ lines

-- a part of a recording after a text: where it is no larger than a program, that program, an empty line, and the line
-- of the part with the verdict on it, else the line of the part with what is answered to it
pub record IsPartAnswer (y : Execution) (before : List ℕ) (answer : Answer) : Type 0 where
  pub short : IsShortRecording y → IsVerdictAnswer y (before ++ shown_text (named_program y) y) answer
  pub long : ¬ IsShortRecording y → IsLongTextAnswer y (before ++ recording_text y) answer

-- what is left of a violation where the events alone are kept that it needs, with their sources: their numbers and
-- labels, and the part
pub record IsLongCutAnswer (x : Execution) (labels : List (List ℕ)) (answer : Answer) : Type 0 where
  pub found : LongAnswer
  pub is : IsLongAnswer x found
  pub events : List ℕ
  pub rest : Execution
  pub reduction : IsLongReduction x found events rest
  pub outcome : answer.outcome ≡ Violation
  pub shown : IsPartAnswer rest (heading (Some labels) events) answer

-- what is left of a violation; of another recording its first memory order
pub record IsLongReducedAnswer (x : Execution) (labels : List (List ℕ)) (answer : Answer) : Type 0 where
  pub ordered : (m : List ℕ) → IsTsoOrder x m → IsLongTextAnswer x [] answer
  pub violation : HasNoOrder x → IsLongCutAnswer x labels answer

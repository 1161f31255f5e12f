-- What outcomes answers.
use Rattle.std.specs.Prelude.{◌≡◌, ◌⊎◌, ◌++◌, ◌∷◌, [], ℕ, List, Option, Ok, Err, codes, decimal}
use Rattle.std.specs.Prelude.{string_bytes}
use Rattle.program.specs.Parts.{Parts}
use Rattle.command_line.specs.declared.options.OutcomesOptions.{OutcomesOptions}
use Rattle.command_line.specs.declared.options.Question.{Question}
use Rattle.command_line.specs.declared.options.Question.TheVariants.{All, Observed, Exists, Never, Show}
use Rattle.litmus.specs.Refusals.{refusal_line}
use Rattle.outcomes.specs.declared.observed.Observation.{Observation}
use Rattle.outcomes.specs.Observed.{IsExplained}
use Rattle.outcomes.specs.Outcome.{Outcome}
use Rattle.outcomes.specs.Witness.{IsFirst, IsRecordingOf}
use Rattle.outcome_texts.specs.Log.{log_says}
use Rattle.outcome_texts.specs.ObservedLine.{condition_of}
use Rattle.outcome_texts.specs.Seen.{Seen}
use Rattle.verdicts.specs.declared.printed.Answer.{Answer}
use Rattle.program_answers.specs.declared.outcome_answers.Condition.{Condition}
use Rattle.program_answers.specs.declared.outcome_answers.Condition.TheVariants as condition
use Rattle.program_answers.specs.declared.outcome_answers.Reply.TheVariants.{No}
use Rattle.program_answers.specs.LogAnswer.{IsLogAnswer}
use Rattle.program_answers.specs.Outcomes.{IsConditionAnswer, IsOutcomesAnswer, IsText, IsUnfinished}
use Rattle.program_answers.specs.Outcomes.{condition_text}
use Rattle.recorder.specs.Text.{recording_text}
use Rattle.recording.specs.Execution.{Execution}
use Rattle.verdicts.specs.Judgement.{IsOrderedVerdict}
use Rattle.verdicts.specs.declared.outcome.Outcome.TheVariants.{Done, Violation}
use Rattle.commands.specs.Choices.{unseen_form}
use Rattle.commands.specs.Replay.{IsReplayText}
use Rattle.inputs.specs.declared.command_error.CommandError.TheVariants.{OutOfMemory}
use Rattle.inputs.specs.declared.command_stop.CommandStop.{CommandStop}
use Rattle.inputs.specs.declared.command_stop.CommandStop.TheVariants.{Refused, Failed}
use Rattle.inputs.specs.Inputs.{AreBytesOf, Inputs, IsInputError}
use Rattle.inputs.specs.Named.{IsProgramStop, OfProgram}

-- the names of the inputs of a question
abbrev pub question_names : Question → List (List ℕ)
question_names (Observed file unseen why) = string_bytes file ∷ []
question_names other = []

-- the log of this name says these lines of a program
pub record IsLogAt (inputs : Inputs) (name : List ℕ) (p : Parts) (lines : List Seen) : Type 0 where
  pub text : List ℕ
  pub given : AreBytesOf inputs name text
  pub says : log_says p text ≡ Ok lines

-- the answer by what a condition says
abbrev pub IsConditioned : Parts → ℕ → Condition → List ℕ → Answer → Type 0
IsConditioned p states wanted text answer =
    (seen : List Observation) × (condition_of p text ≡ Ok seen) × IsConditionAnswer p states wanted seen answer

-- the replay of a recording's least order, and the recording, with an empty line between
pub record IsReplayedRecording (x : Execution) (answer : Answer) : Type 0 where
  pub order : List ℕ
  pub least : IsOrderedVerdict x order
  pub replay : List ℕ
  pub replayed : IsReplayText x order replay
  pub outcome : answer.outcome ≡ Done
  pub text : answer.text.items ≡ replay ++ 10 ∷ [] ++ recording_text x

-- a recording of the first outcome that has the values, that TSO allows none, or that there are more states than may
-- be seen
abbrev pub IsShowAnswer : Parts → ℕ → List Observation → Answer → Type 0
IsShowAnswer p states seen answer =
    ((o : Outcome) × (x : Execution) × IsFirst p seen o × IsRecordingOf p o x × IsReplayedRecording x answer)
    ⊎ ((¬ IsExplained p seen × IsText Violation (condition_text No) answer) ⊎ IsUnfinished p states answer)

-- a recording of the first outcome that has what a condition says
abbrev pub IsShownOutcome : Parts → ℕ → List ℕ → Answer → Type 0
IsShownOutcome p states text answer =
    (seen : List Observation) × (condition_of p text ≡ Ok seen) × IsShowAnswer p states seen answer

-- the answer to a question about the outcomes of a program
abbrev pub IsQuestionAnswer : Inputs → Parts → ℕ → Question → Answer → Type 0
IsQuestionAnswer inputs p states All answer = IsOutcomesAnswer p states answer
IsQuestionAnswer inputs p states (Observed file unseen why) answer = (lines : List Seen)
    × IsLogAt inputs (string_bytes file) p lines
    × IsLogAnswer p states lines (record { unseen = unseen_form unseen; why = why }) answer
IsQuestionAnswer inputs p states (Exists items) answer =
    IsConditioned p states condition.Exists (string_bytes items) answer
IsQuestionAnswer inputs p states (Never items) answer =
    IsConditioned p states condition.Never (string_bytes items) answer
IsQuestionAnswer inputs p states (Show items) answer = IsShownOutcome p states (string_bytes items) answer

-- the answer of outcomes
abbrev pub IsOutcomes : Inputs → OutcomesOptions → Answer → Type 0
IsOutcomes inputs o answer = OfProgram inputs (string_bytes o.program)
    (λ p. IsQuestionAnswer inputs p o.states o.question answer)

-- the log of this name is refused, by its first line at fault, or isn't read
abbrev pub IsLogStop : Inputs → List ℕ → CommandStop → Parts → Type 0
IsLogStop inputs name (Refused refusal) p = (text : List ℕ) × AreBytesOf inputs name text × (n : ℕ)
    × (log_says p text ≡ Err n) × (string_bytes refusal.line ≡ refusal_line (codes "O1") n)
IsLogStop inputs name (Failed error) p = IsInputError inputs name error

-- the line that is printed for an item of a condition
abbrev pub item_line : ℕ → List ℕ
item_line n = codes "refused: O2 item " ++ decimal n ++ 10 ∷ []

-- a condition is refused, by its first item at fault
abbrev pub IsConditionStop : List ℕ → CommandStop → Parts → Type 0
IsConditionStop text (Refused refusal) p =
    (n : ℕ) × (condition_of p text ≡ Err n) × (string_bytes refusal.line ≡ item_line n)
IsConditionStop text (Failed error) p = error ≡ OutOfMemory

-- why a question about the outcomes of a program is not answered
abbrev pub IsQuestionStop : Inputs → Question → CommandStop → Parts → Type 0
IsQuestionStop inputs All stop p = stop ≡ Failed OutOfMemory
IsQuestionStop inputs (Observed file unseen why) stop p = IsLogStop inputs (string_bytes file) stop p
IsQuestionStop inputs (Exists items) stop p = IsConditionStop (string_bytes items) stop p
IsQuestionStop inputs (Never items) stop p = IsConditionStop (string_bytes items) stop p
IsQuestionStop inputs (Show items) stop p = IsConditionStop (string_bytes items) stop p

-- why outcomes stops: its program does, or the question about it
abbrev pub IsOutcomesStop : Inputs → OutcomesOptions → CommandStop → Type 0
IsOutcomesStop inputs o stop = IsProgramStop inputs (string_bytes o.program) stop
    ⊎ OfProgram inputs (string_bytes o.program) (IsQuestionStop inputs o.question stop)

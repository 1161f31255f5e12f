-- What each command answers, why it stops, and which inputs it opens.
use Rattle.std.specs.Prelude.{◌≡◌, ◌++◌, ◌∷◌, [], ℕ, List, Option, None, Some, map, option_map, string_bytes}
use Rattle.command_line.specs.declared.options.ExplainOptions.{ExplainOptions}
use Rattle.command_line.specs.declared.options.Options.{Options}
use Rattle.command_line.specs.declared.options.Options.TheVariants.{Run, Judge, JudgeLong, Trials, Live, Replay}
use Rattle.command_line.specs.declared.options.Options.TheVariants.{Explain, Draw}
use Rattle.command_line.specs.declared.options.Options.TheVariants.{Reduce, Verify, Survey, Merge, Outcomes, Complete}
use Rattle.command_line.specs.declared.options.Options.TheVariants.{Make}
use Rattle.verdicts.specs.declared.printed.Answer.{Answer}
use Rattle.answers.specs.declared.rendering.Rendering.TheVariants.{Told, Reduction}
use Rattle.answers.specs.declared.rendering.Telling.TheVariants.{Words}
use Rattle.answers.specs.Rendered.{picture_form}
use Rattle.inputs.specs.declared.command_stop.CommandStop.{CommandStop}
use Rattle.inputs.specs.declared.command_stop.CommandStop.TheVariants.{Failed}
use Rattle.inputs.specs.declared.command_error.CommandError.TheVariants.{OutOfMemory}
use Rattle.inputs.specs.Inputs.{Inputs, IsInputError}
use Rattle.inputs.specs.Named.{IsValuesStop}
use Rattle.inputs.specs.Refusal.{IsFailure}
use Rattle.commands.specs.Complete.{IsCompletedInput}
use Rattle.commands.specs.Judge.{IsFileAnswer, IsLongFileAnswer, IsVerified, IsVerifyStop}
use Rattle.commands.specs.Make.{IsMakeAnswer, IsMakeStop}
use Rattle.merging.specs.Merge.{IsMerged, IsMergeStop}
use Rattle.commands.specs.Outcomes.{IsOutcomes, IsOutcomesStop, question_names}
use Rattle.commands.specs.Render.{IsRendered, IsRenderingStop}
use Rattle.commands.specs.Replay.{IsReplayedInput, IsReplayStop}
use Rattle.commands.specs.Run.{IsLive, IsLiveStop, IsRun, IsRunStop, IsTrials}
use Rattle.commands.specs.Survey.{IsSurveyOf, IsSurveyStop}

-- a name, where there is one
abbrev pub maybe_name : Option (List ℕ) → List (List ℕ)
maybe_name None = []
maybe_name (Some name) = name ∷ []

-- the recording, then the program and the labels where these are named
abbrev pub render_names : ExplainOptions → List (List ℕ)
render_names o = string_bytes o.file ∷ maybe_name (option_map string_bytes o.program)
    ++ maybe_name (option_map string_bytes o.labels)

-- the name of the script of a run, unless runs are counted
abbrev pub script_name : Option ℕ → Option (List ℕ) → Option (List ℕ)
script_name None name = name
script_name (Some runs) name = None

-- the names of the inputs of a command, in the order in which they are opened
abbrev pub input_names : Options → List (List ℕ)
input_names (Run o) = string_bytes o.program ∷ maybe_name (script_name o.runs (option_map string_bytes o.steps))
input_names (Judge o) = string_bytes o.file ∷ []
input_names (JudgeLong o) = string_bytes o.file ∷ []
input_names (Trials o) = []
input_names (Live o) = string_bytes o.program ∷ []
input_names (Replay o) = string_bytes o.file ∷ []
input_names (Explain o) = render_names o
input_names (Draw o) = render_names o.recording
input_names (Reduce o) = render_names o
input_names (Verify o) = string_bytes o.recording ∷ string_bytes o.verdict ∷ []
input_names (Survey o) = string_bytes o.file ∷ []
input_names (Merge o) = map string_bytes o.files.items
input_names (Outcomes o) = string_bytes o.program ∷ question_names o.question
input_names (Complete o) = string_bytes o.file ∷ []
input_names (Make o) = []

-- what a command answers to its options and inputs
abbrev pub IsAnswerTo : Inputs → Options → Answer → Type 0
IsAnswerTo inputs (Run o) answer = IsRun inputs o answer
IsAnswerTo inputs (Judge o) answer = IsFileAnswer inputs o answer
IsAnswerTo inputs (JudgeLong o) answer = IsLongFileAnswer inputs o answer
IsAnswerTo inputs (Trials o) answer = IsTrials o o.show answer
IsAnswerTo inputs (Live o) answer = IsLive inputs o answer
IsAnswerTo inputs (Replay o) answer = IsReplayedInput inputs o answer
IsAnswerTo inputs (Explain o) answer = IsRendered inputs (Told Words) o answer
IsAnswerTo inputs (Draw o) answer = IsRendered inputs (Told (picture_form o.all)) o.recording answer
IsAnswerTo inputs (Reduce o) answer = IsRendered inputs Reduction o answer
IsAnswerTo inputs (Verify o) answer = IsVerified inputs o answer
IsAnswerTo inputs (Survey o) answer = IsSurveyOf inputs o o.show answer
IsAnswerTo inputs (Merge o) answer = IsMerged inputs o answer
IsAnswerTo inputs (Outcomes o) answer = IsOutcomes inputs o answer
IsAnswerTo inputs (Complete o) answer = IsCompletedInput inputs o answer
IsAnswerTo inputs (Make o) answer = IsMakeAnswer o answer

-- why a command with these options and inputs stops
abbrev pub IsCommandStop : Inputs → Options → CommandStop → Type 0
IsCommandStop inputs (Run o) stop = IsRunStop inputs o (script_name o.runs (option_map string_bytes o.steps)) stop
IsCommandStop inputs (Judge o) stop = IsFailure (IsInputError inputs (string_bytes o.file)) stop
IsCommandStop inputs (JudgeLong o) stop = IsFailure (IsInputError inputs (string_bytes o.file)) stop
IsCommandStop inputs (Trials o) stop = stop ≡ Failed OutOfMemory
IsCommandStop inputs (Live o) stop = IsLiveStop inputs o stop
IsCommandStop inputs (Replay o) stop = IsReplayStop inputs o stop
IsCommandStop inputs (Explain o) stop = IsRenderingStop inputs o stop
IsCommandStop inputs (Draw o) stop = IsRenderingStop inputs o.recording stop
IsCommandStop inputs (Reduce o) stop = IsRenderingStop inputs o stop
IsCommandStop inputs (Verify o) stop = IsVerifyStop inputs o stop
IsCommandStop inputs (Survey o) stop = IsSurveyStop inputs o o.show stop
IsCommandStop inputs (Merge o) stop = IsMergeStop inputs o stop
IsCommandStop inputs (Outcomes o) stop = IsOutcomesStop inputs o stop
IsCommandStop inputs (Complete o) stop = IsValuesStop inputs (string_bytes o.file) stop
IsCommandStop inputs (Make o) stop = IsMakeStop o stop

-- Renderings of a recording.
use Rattle.std.specs.Prelude.{◌≡◌, ◌⊎◌, ◌++◌, ◌∷◌, [], ℕ, List, Option, Some, None, codes, option_map, string_bytes}
use Rattle.program.specs.Parts.{Parts}
use Rattle.recording.specs.declared.size.RecordingSize.{RecordingSize}
use Rattle.recording.specs.declared.size.RecordingSize.TheVariants.{Long, Short}
use Rattle.recording.specs.Execution.{Execution}
use Rattle.program_events.specs.ProgramOf.{IsProgramOf}
use Rattle.command_line.specs.declared.options.ExplainOptions.{ExplainOptions}
use Rattle.verdicts.specs.declared.printed.Answer.{Answer}
use Rattle.answers.specs.declared.rendering.Rendering.{Rendering}
use Rattle.answers.specs.Rendered.{IsLongRenderedAnswer, IsRenderedAnswer}
use Rattle.inputs.specs.declared.command_stop.CommandStop.{CommandStop}
use Rattle.inputs.specs.declared.command_stop.CommandStop.TheVariants.{Failed}
use Rattle.inputs.specs.declared.command_error.CommandError.TheVariants.{OutOfMemory}
use Rattle.inputs.specs.Named.{AreLabelsAt, IsLabelsStop, IsProgramAt, IsProgramStop, IsRecordingStop, OfProgram}
use Rattle.inputs.specs.Named.{OfRecording}
use Rattle.inputs.specs.Refusal.{IsLineStop}
use Rattle.inputs.specs.Inputs.{Inputs}

-- the program of this name, of which the recording is one, where one is named
abbrev pub IsProgramGiven : Inputs → Option (List ℕ) → Execution → Option Parts → Type 0
IsProgramGiven inputs None x p = p ≡ None
IsProgramGiven inputs (Some name) x None = ⊥
IsProgramGiven inputs (Some name) x (Some program) = IsProgramAt inputs name program × IsProgramOf program x

-- the labels of this name, one for each event, where they are named
abbrev pub AreLabelsGiven : Inputs → Option (List ℕ) → Execution → List (List ℕ) → Type 0
AreLabelsGiven inputs None x labels = labels ≡ []
AreLabelsGiven inputs (Some name) x labels = AreLabelsAt inputs name x labels

-- the rendering of a recording of a size, with the names of its program where it is a short one
abbrev pub IsRenderingOf : RecordingSize → Rendering → Execution → Option Parts → List (List ℕ) → Answer → Type 0
IsRenderingOf Short rendering x program labels answer = IsRenderedAnswer rendering x program labels answer
IsRenderingOf Long rendering x program labels answer = IsLongRenderedAnswer rendering x labels answer

-- the rendering of a recording, by the program and the labels that are named
pub record IsRenderedBy (inputs : Inputs) (rendering : Rendering) (o : ExplainOptions)
    (answer : Answer) (x : Execution) : Type 0 where
  pub program : Option Parts
  pub is_program : IsProgramGiven inputs (option_map string_bytes o.program) x program
  pub labels : List (List ℕ)
  pub are_labels : AreLabelsGiven inputs (option_map string_bytes o.labels) x labels
  pub rendered : IsRenderingOf o.size rendering x program labels answer

-- the rendering of the recording of the named input
abbrev pub IsRendered : Inputs → Rendering → ExplainOptions → Answer → Type 0
IsRendered inputs rendering o answer =
    OfRecording inputs (string_bytes o.file) o.size (IsRenderedBy inputs rendering o answer)

-- why a recording has no program of this name: it is refused or isn't read, or is another one
abbrev pub IsNamesStop : Inputs → Option (List ℕ) → CommandStop → Execution → Type 0
IsNamesStop inputs (Some name) stop x = IsProgramStop inputs name stop ⊎ OfProgram inputs name
    (λ program. ¬ IsProgramOf program x × IsLineStop (codes "refused: N9" ++ 10 ∷ []) stop)
IsNamesStop inputs None stop x = ⊥

-- why a recording has no labels of this name, or memory ran out
abbrev pub IsLabellingStop : Inputs → Option (List ℕ) → CommandStop → Execution → Type 0
IsLabellingStop inputs (Some name) stop x = IsLabelsStop inputs name stop x
IsLabellingStop inputs None stop x = stop ≡ Failed OutOfMemory

-- why a recording that is read is not rendered: its program, and then no labels are opened, or its labels
abbrev pub IsRecordingUnrendered : Inputs → ExplainOptions → CommandStop → Execution → Type 0
IsRecordingUnrendered inputs o stop x = IsNamesStop inputs (option_map string_bytes o.program) stop x
    ⊎ ((p : Option Parts) × IsProgramGiven inputs (option_map string_bytes o.program) x p
    × IsLabellingStop inputs (option_map string_bytes o.labels) stop x)

-- why no recording is rendered: the recording is not read, and then nothing else is opened, or why one that is read is
-- not
abbrev pub IsRenderingStop : Inputs → ExplainOptions → CommandStop → Type 0
IsRenderingStop inputs o stop = IsRecordingStop inputs (string_bytes o.file) o.size stop
    ⊎ OfRecording inputs (string_bytes o.file) o.size (IsRecordingUnrendered inputs o stop)

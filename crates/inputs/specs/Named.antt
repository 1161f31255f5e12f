-- The program, the recording, the values or the labels that a named input is, and why it is not read.
use Rattle.std.specs.Prelude.{◌≡◌, ◌≢◌, ◌⊎◌, ◌++◌, ◌∷◌, [], ℕ, List, Option, Some, Ok, Err, codes, length, string_bytes}
use Rattle.program.specs.Parts.{Parts}
use Rattle.litmus.specs.Text.{reading}
use Rattle.recording.specs.declared.fault.RecError.{RecError}
use Rattle.recording.specs.declared.size.RecordingSize.{RecordingSize}
use Rattle.recording.specs.Execution.{Execution, event_count}
use Rattle.recorder.specs.Reading.{IsReadingOf}
use Rattle.values.specs.Values.{Values}
use Rattle.values_text.specs.Reading.{IsValuesReading}
use Rattle.verdicts.specs.Refusal.{recording_line}
use Rattle.event_texts.specs.Labels.{labels_in}
use Rattle.litmus.specs.Refusals.{line_refusal_name, refusal_line}
use Rattle.inputs.specs.declared.command_stop.CommandStop.{CommandStop}
use Rattle.inputs.specs.declared.command_stop.CommandStop.TheVariants.{Refused, Failed}
use Rattle.inputs.specs.Inputs.{AreBytesOf, Inputs, IsInputError}
use Rattle.inputs.specs.Refusal.{IsReadingStop}

-- the input of this name is the text of the program
pub record IsProgramAt (inputs : Inputs) (name : List ℕ) (program : Parts) : Type 0 where
  pub text : List ℕ
  pub given : AreBytesOf inputs name text
  pub read : reading text ≡ Ok program

-- the bytes of the input of this name give the recording of a size
pub record IsRecordingAt (inputs : Inputs) (name : List ℕ) (size : RecordingSize) (x : Execution)
    : Type 0 where
  pub bytes : List ℕ
  pub given : AreBytesOf inputs name bytes
  pub read : IsReadingOf size bytes (Ok x)

-- the bytes of the input of this name give the values
pub record AreValuesAt (inputs : Inputs) (name : List ℕ) (v : Values) : Type 0 where
  pub bytes : List ℕ
  pub given : AreBytesOf inputs name bytes
  pub read : IsValuesReading bytes (Ok v)

-- the named program is refused or isn't read
abbrev pub IsProgramStop : Inputs → List ℕ → CommandStop → Type 0
IsProgramStop inputs name (Refused refusal) = (text : List ℕ) × AreBytesOf inputs name text
    × IsReadingStop line_refusal_name (reading text) (Refused refusal)
IsProgramStop inputs name (Failed error) = IsInputError inputs name error

-- the named input is no recording of a size, or isn't read
abbrev pub IsRecordingStop : Inputs → List ℕ → RecordingSize → CommandStop → Type 0
IsRecordingStop inputs name size (Refused refusal) = (bytes : List ℕ) × AreBytesOf inputs name bytes
    × (refused : RecError) × IsReadingOf size bytes (Err refused)
    × (recording_line refused ≡ Some (string_bytes refusal.line))
IsRecordingStop inputs name size (Failed error) = IsInputError inputs name error

-- the input of this name has a label for each event of the recording
pub record AreLabelsAt (inputs : Inputs) (name : List ℕ) (x : Execution) (labels : List (List ℕ))
    : Type 0 where
  pub text : List ℕ
  pub given : AreBytesOf inputs name text
  pub read : labels_in text ≡ Ok labels
  pub each : length labels ≡ event_count x

-- the line that is printed for a text that has no label for each event: its first line that is too long, or that there
-- are not as many lines as events
abbrev pub IsLabelsRefusal : List ℕ → Execution → List ℕ → Type 0
IsLabelsRefusal text x line =
    ((n : ℕ) × (labels_in text ≡ Err n) × (line ≡ refusal_line (codes "A1") n))
    ⊎ ((labels : List (List ℕ)) × (labels_in text ≡ Ok labels) × (length labels ≢ event_count x)
    × (line ≡ codes "refused: A2" ++ 10 ∷ []))

-- the named input has no label for each event of the recording, or isn't read
abbrev pub IsLabelsStop : Inputs → List ℕ → CommandStop → Execution → Type 0
IsLabelsStop inputs name (Refused refusal) x = (text : List ℕ) × AreBytesOf inputs name text
    × IsLabelsRefusal text x (string_bytes refusal.line)
IsLabelsStop inputs name (Failed error) x = IsInputError inputs name error

-- the named input is no text of values, or isn't read
abbrev pub IsValuesStop : Inputs → List ℕ → CommandStop → Type 0
IsValuesStop inputs name (Refused refusal) = (bytes : List ℕ) × AreBytesOf inputs name bytes
    × (refused : RecError) × IsValuesReading bytes (Err refused)
    × (recording_line refused ≡ Some (string_bytes refusal.line))
IsValuesStop inputs name (Failed error) = IsInputError inputs name error

-- the input of this name is a program, of which this holds
abbrev pub OfProgram : Inputs → List ℕ → (Parts → Type 0) → Type 0
OfProgram inputs name Holds = (program : Parts) × IsProgramAt inputs name program × Holds program

-- the input of this name is a recording of a size, of which this holds
abbrev pub OfRecording : Inputs → List ℕ → RecordingSize → (Execution → Type 0) → Type 0
OfRecording inputs name size Holds = (x : Execution) × IsRecordingAt inputs name size x × Holds x

-- the input of this name has values, of which this holds
abbrev pub OfValues : Inputs → List ℕ → (Values → Type 0) → Type 0
OfValues inputs name Holds = (v : Values) × AreValuesAt inputs name v × Holds v

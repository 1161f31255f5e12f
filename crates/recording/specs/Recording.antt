-- What every recording keeps.
use Rattle.std.specs.Prelude.{◌≡◌, ◌<◌, ◌≤◌, ◌⊎◌, ℕ, List, length}
use Rattle.recording.specs.declared.event.Event.{Event}
use Rattle.recording.specs.declared.size.RecordingSize.{RecordingSize}
use Rattle.recording.specs.declared.size.RecordingSize.TheVariants.{Short, Long}
use Rattle.recording.specs.Execution.{Execution, event_count, Reads, Writes}
use Rattle.recording.specs.Sizes.{most_cores, most_events, most_addresses}
use Rattle.recording.specs.Tso.{IsWellFormed}

-- an execution of these events, write lists and initial values
abbrev pub executed : List (List Event) → List (List ℕ) → List ℕ → Execution
executed events writes values = record { cores = events; write_lists = writes; initial = values }

-- it is within the limits of a size, each address that is used has a write list, and each that has one has an
-- initial value
pub record IsWithinLimits (size : RecordingSize) (x : Execution) : Type 0 where
  pub few_cores : length x.cores ≤ most_cores size
  pub few_events : event_count x ≤ most_events size
  pub few_addresses : length x.write_lists ≤ most_addresses size
  pub addresses : (e a : ℕ) → Reads x e a ⊎ Writes x e a → a < length x.write_lists
  pub initial : length x.initial ≡ length x.write_lists

-- it is well formed and within the limits of a size
pub record IsRecordingWithin (size : RecordingSize) (x : Execution) : Type 0 where
  pub well_formed : IsWellFormed x
  pub within : IsWithinLimits size x

-- it is a recording: well formed and within the limits of long ones
abbrev pub IsRecording : Execution → Type 0
IsRecording x = IsRecordingWithin Long x

-- it is a recording that is no larger than a program
abbrev pub IsShortRecording : Execution → Type 0
IsShortRecording x = IsRecordingWithin Short x

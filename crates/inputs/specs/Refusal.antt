-- The lines of refused texts.
use Rattle.std.specs.Prelude.{◌≡◌, ℕ, List, Result, Ok, Err, codes, string_bytes}
use Rattle.machine.specs.declared.script_refusal.StepRefusal.{StepRefusal}
use Rattle.machine.specs.declared.script_refusal.StepRefusal.TheVariants.{S1, S2, S3, S4}
use Rattle.refusals.specs.Lines.{refusal_line}
use Rattle.inputs.specs.declared.command_stop.CommandStop.{CommandStop}
use Rattle.inputs.specs.declared.command_stop.CommandStop.TheVariants.{Refused, Failed}
use Rattle.inputs.specs.declared.command_error.CommandError.{CommandError}
use Rattle.inputs.specs.declared.command_error.CommandError.TheVariants.{OutOfMemory}

-- the name of the refusal of a script's line
abbrev pub step_refusal_name : StepRefusal → List ℕ
step_refusal_name S1 = codes "S1"
step_refusal_name S2 = codes "S2"
step_refusal_name S3 = codes "S3"
step_refusal_name S4 = codes "S4"

-- the text is refused by this name and line, or memory ran out
abbrev pub IsReadingStop : {X F : Type 0} → (F → List ℕ) → Result X (F × ℕ) → CommandStop → Type 0
IsReadingStop name (Ok x) (Refused refusal) = ⊥
IsReadingStop name (Err refused_at) (Refused refusal) = string_bytes refusal.line
    ≡ refusal_line (name refused_at.0) refused_at.1
IsReadingStop name reading (Failed error) = error ≡ OutOfMemory

-- the line is printed, or memory ran out
abbrev pub IsLineStop : List ℕ → CommandStop → Type 0
IsLineStop text (Refused refusal) = string_bytes refusal.line ≡ text
IsLineStop text (Failed error) = error ≡ OutOfMemory

-- nothing is refused, and the error is one of these
abbrev pub IsFailure : (CommandError → Type 0) → CommandStop → Type 0
IsFailure Is (Refused refusal) = ⊥
IsFailure Is (Failed error) = Is error

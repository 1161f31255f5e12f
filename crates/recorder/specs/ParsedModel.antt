-- What the text of a recording has, and which version it then is.
use Rattle.std.specs.Prelude.{◌≡◌, ◌⊎◌, ℕ, false, Option, None, Some, IsSome, List, length, map, option_map, replicate}
use Rattle.recording.specs.declared.event.Event.{Event}
use Rattle.recording.specs.Execution.{Execution}
use Rattle.recording.specs.Recording.{executed}
use Rattle.recorder.specs.declared.reading.Parsed.{Parsed}
use Rattle.recorder.specs.Text.{has_failed_cas}

-- the version of a text, the events of each core, the write lists, and the initial values where it has them
pub record ParsedModel : Type 0 where
  pub version : ℕ
  pub cores : List (List Event)
  pub write_lists : List (List ℕ)
  pub values : Option (List ℕ)

-- the initial values; where the text has none, 0 for each write list
abbrev pub initial_values : Option (List ℕ) → List (List ℕ) → List ℕ
initial_values None lists = replicate (length lists) 0
initial_values (Some values) lists = values

-- the execution that a text tells
abbrev pub execution_of : ParsedModel → Execution
execution_of c = executed c.cores c.write_lists (initial_values c.values c.write_lists)

-- version 1 has no initial values and no compare-and-swap that failed, version 2 has initial values
abbrev pub IsVersioned : ParsedModel → Type 0
IsVersioned c = ((c.version ≡ 1) × (c.values ≡ None) × (has_failed_cas c.cores ≡ false))
    ⊎ ((c.version ≡ 2) × IsSome c.values)

-- what was read, without where it lies in memory
abbrev pub model_of : Parsed → ParsedModel
model_of f = record {
  version = f.version;
  cores = map (λ v. v.items) f.cores.items;
  write_lists = map (λ v. v.items) f.writes.items;
  values = option_map (λ v. v.items) f.init;
}

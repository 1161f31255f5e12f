-- What was read of the members of values, and what it is.
use Rattle.std.specs.Prelude.{◌≡◌, ℕ, List, Some, map, option_map}
use Rattle.serde_json.specs.Data.{Data}
use Rattle.recorder.specs.Text.{IsReadAs}
use Rattle.values_text.specs.declared.shape.Parsed.{Parsed}
use Rattle.values_text.specs.Reading.{ParsedValues}
use Rattle.values_text.specs.Clipped.{clipped_values_shape}

-- what was read, without where it lies in memory
abbrev pub parsed_values : Parsed → ParsedValues
parsed_values p = record {
  version = p.version;
  cores = map (λ v. v.items) p.cores.items;
  initial = p.init.items;
  final_values = option_map (λ v. v.items) p.final_values;
}

-- the bytes are read as a value of whose contents this is held
abbrev pub IsHeldOf : List ℕ → Parsed → Type 0
IsHeldOf bytes p = (d : Data) × IsReadAs bytes d × (clipped_values_shape d ≡ Some (parsed_values p))

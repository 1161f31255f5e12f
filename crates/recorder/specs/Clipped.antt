-- What the readers hold of an execution: 32 bits of each number. Within the limits a greater number
-- names nothing, and neither does the greatest of 32 bits.
use Rattle.std.specs.Prelude.{◌^◌, ◌-◌, ℕ, Option, option_map, map, nat_lt, if◌then◌else◌}
use Rattle.serde_json.specs.Data.{Data}
use Rattle.recording.specs.declared.event.Event.{Event}
use Rattle.recording.specs.declared.event.Event.TheVariants.{L, S, R, C, F}
use Rattle.recording.specs.Execution.{Execution}
use Rattle.recording.specs.Recording.{executed}
use Rattle.recorder.specs.ParsedModel.{ParsedModel}
use Rattle.recorder.specs.Reading.{natural, event_in}

-- a number, or the greatest of 32 bits where it is greater
abbrev pub clip : ℕ → ℕ
clip n = if nat_lt n (2 ^ 32) then n else 2 ^ 32 - 1

-- an event with its address and its source clipped
abbrev pub clip_event : Event → Event
clip_event (L a r s) = L (clip a) r (option_map clip s)
clip_event (S a w) = S (clip a) w
clip_event (R a r s w) = R (clip a) r (option_map clip s) w
clip_event (C a r s) = C (clip a) r (option_map clip s)
clip_event F = F

-- an execution with each address, each source and each number of a write list clipped; an initial value
-- never is
abbrev pub clipped : Execution → Execution
clipped x = executed (map (map clip_event) x.cores) (map (map clip) x.write_lists) x.initial

-- the contents of a text, clipped as an execution is; the version never is
abbrev pub clipped_shape : ParsedModel → ParsedModel
clipped_shape c = record {
  version = c.version;
  cores = map (map clip_event) c.cores;
  write_lists = map (map clip) c.write_lists;
  values = c.values;
}

-- what is held of the number of an event or of an address
abbrev pub clipped_number : Data → Option ℕ
clipped_number d = option_map clip (natural d)

-- what is held of an event
abbrev pub clipped_event : Data → Option Event
clipped_event d = option_map clip_event (event_in d)

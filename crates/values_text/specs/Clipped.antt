-- What the reader holds of values: 32 bits of the number of an address and of an event, as the readers of recordings.
use Rattle.std.specs.Prelude.{ℕ, Option, option_map, map}
use Rattle.serde_json.specs.Data.{Data}
use Rattle.recorder.specs.Clipped.{clip, clip_event}
use Rattle.values.specs.Values.{Values}
use Rattle.values_text.specs.Reading.{KnownEvent, known_event_in, ParsedValues, values_shape}

-- a source, if one is known, clipped
abbrev pub clip_source : Option (Option ℕ) → Option (Option ℕ)
clip_source s = option_map (option_map clip) s

-- an event with its address and its source clipped
abbrev pub clip_known : KnownEvent → KnownEvent
clip_known p = (clip_event p.0, clip_source p.1)

-- what is held of an event
abbrev pub clipped_known : Data → Option KnownEvent
clipped_known d = option_map clip_known (known_event_in d)

-- values with each address and each source clipped
abbrev pub clipped_values : Values → Values
clipped_values v = record {
  cores = map (map clip_event) v.cores;
  sources = map clip_source v.sources;
  initial = v.initial;
  final_values = v.final_values;
}

-- the contents of a text, clipped as values are
abbrev pub clipped_parsed : ParsedValues → ParsedValues
clipped_parsed c = record {
  version = c.version;
  cores = map (map clip_known) c.cores;
  initial = c.initial;
  final_values = c.final_values;
}

-- what is held of the contents of a text
abbrev pub clipped_values_shape : Data → Option ParsedValues
clipped_values_shape d = option_map clipped_parsed (values_shape d)

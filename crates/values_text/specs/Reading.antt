-- What the bytes of values alone give, from what `serde_json` reads of them: values, or the first refusal.
use Rattle.std.specs.Prelude.{◌≡◌, ◌≢◌, ◌==◌, ◌&&◌, ℕ, List, Option, None, Some, is_some, length, map, flat_map}
use Rattle.std.specs.Prelude.{option_map, option_and_then, replicate, Result, Ok, Err, codes, bytes_eq}
use Rattle.std.specs.Prelude.{if◌then◌else◌, ⊤}
use Rattle.serde_json.specs.Data.{Data}
use Rattle.serde_json.specs.Find.{as_null, as_str, as_object}
use Rattle.recording.specs.declared.event.Event.{Event}
use Rattle.recording.specs.declared.event.Event.TheVariants.{L, S, R, C, F}
use Rattle.recording.specs.declared.fault.RecError.{RecError}
use Rattle.recording.specs.declared.fault.RecError.TheVariants.{NotJson, Shape, Version, OutOfMemory}
use Rattle.recording.specs.Event.{source}
use Rattle.recorder.specs.Reading.{natural, value_in, source_in, list_in, at_key, count_members, read_of}
use Rattle.recorder.specs.Text.{IsReadAs}
use Rattle.values.specs.Values.{Values, unsourced}
use Rattle.values.specs.Refused.{ObeyRules, AreRefused}

-- an event, and the source that is known of it, if one is
abbrev pub KnownEvent : Type 0
KnownEvent = Event × Option (Option ℕ)

-- an event whose source is known
abbrev pub with_source : Event → KnownEvent
with_source e = (e, Some (source e))

-- an event of which no source is known
abbrev pub without_source : Event → KnownEvent
without_source e = (e, None)

-- a store of these
abbrev pub store_of : Option ℕ → Option ℕ → Option Event
store_of a w = option_and_then (λ x. option_map (λ v. S x v) w) a

-- a read-modify-write of these
abbrev pub rmw_of : Option ℕ → Option ℕ → Option (Option ℕ) → Option ℕ → Option Event
rmw_of a r s w = option_and_then (λ v. read_of (λ x y z. R x y z v) a r s) w

-- an event of a kind with this many keys, by what its keys give: what reads may have no key for its source
unfoldable pub known_event : List ℕ → ℕ → Option ℕ → Option ℕ → Option (Option ℕ) → Option ℕ → Option KnownEvent
known_event k n a r s w =
    if bytes_eq k (codes "L") && n == 4 then option_map with_source (read_of L a r s)
    else (if bytes_eq k (codes "L") && n == 3 then option_map without_source (read_of L a r (Some None))
    else (if bytes_eq k (codes "S") && n == 3 then option_map without_source (store_of a w)
    else (if bytes_eq k (codes "R") && n == 5 then option_map with_source (rmw_of a r s w)
    else (if bytes_eq k (codes "R") && n == 4 then option_map without_source (rmw_of a r (Some None) w)
    else (if bytes_eq k (codes "C") && n == 4 then option_map with_source (read_of C a r s)
    else (if bytes_eq k (codes "C") && n == 3 then option_map without_source (read_of C a r (Some None))
    else (if bytes_eq k (codes "F") && n == 1 then Some (F, None) else None)))))))

-- an event: an object with its kind and what the kind has
abbrev pub known_event_in : Data → Option KnownEvent
known_event_in d = option_and_then (λ n. option_and_then (λ k. known_event k n
    (at_key natural (codes "a") d) (at_key value_in (codes "r") d)
    (at_key source_in (codes "s") d) (at_key value_in (codes "w") d))
    (at_key as_str (codes "k") d)) (option_map count_members (as_object d))

-- a final value: null where it is not known
abbrev pub final_in : Data → Option (Option ℕ)
final_in d = if is_some (as_null d) then Some None else option_map Some (value_in d)

-- the version of a text, the events of each core, the initial values, and the final values where it has them
pub record ParsedValues : Type 0 where
  pub version : ℕ
  pub cores : List (List KnownEvent)
  pub initial : List ℕ
  pub final_values : Option (List (Option ℕ))

-- contents of these parts, with final values or without
abbrev pub values_parts : Option ℕ → Option (List (List KnownEvent)) → Option (List ℕ) → Option (List (Option ℕ))
    → Option ParsedValues
values_parts version cores init final_values =
    option_and_then (λ v. option_and_then (λ cs. option_map (λ is. record {
      version = v;
      cores = cs;
      initial = is;
      final_values = final_values;
    }) init) cores) version

-- contents with this many keys, by what the keys give: the fourth of four has final values
unfoldable pub values_contents : ℕ → Option ℕ → Option (List (List KnownEvent)) → Option (List ℕ)
    → Option (List (Option ℕ)) → Option ParsedValues
values_contents n version cores init finals =
    if n == 3 then values_parts version cores init None
    else (if n == 4 then option_and_then (λ fs. values_parts version cores init (Some fs)) finals else None)

-- the contents of a text: an object with its version, its cores, its initial values and perhaps final values
unfoldable pub values_shape : Data → Option ParsedValues
values_shape d = option_and_then (λ n. values_contents n (at_key natural (codes "version") d)
    (at_key (list_in (list_in known_event_in)) (codes "cores") d)
    (at_key (list_in value_in) (codes "init") d) (at_key (list_in final_in) (codes "final") d))
    (option_map count_members (as_object d))

-- the final values; where the text has none, none is known
abbrev pub finals_of : Option (List (Option ℕ)) → List ℕ → List (Option ℕ)
finals_of None initial = replicate (length initial) None
finals_of (Some fs) initial = fs

-- the values that a text tells
abbrev pub told_values : ParsedValues → Values
told_values c = record {
  cores = map (map unsourced) (map (map (λ p. p.0)) c.cores);
  sources = flat_map (map (λ p. p.1)) c.cores;
  initial = c.initial;
  final_values = finals_of c.final_values c.initial;
}

-- a value has the contents of a text of version 3, and they tell the values
pub record DecodesValues (d : Data) (v : Values) : Type 0 where
  pub contents : ParsedValues
  pub shape : values_shape d ≡ Some contents
  pub version : contents.version ≡ 3
  pub same : told_values contents ≡ v

-- what a reader of these bytes may answer: the first refusal in this order; memory alone is left open
abbrev pub IsValuesReading : List ℕ → Result Values RecError → Type 0
IsValuesReading bytes (Ok v) = (d : Data) × IsReadAs bytes d × DecodesValues d v × ObeyRules v
IsValuesReading bytes (Err NotJson) = (d : Data) → IsReadAs bytes d → ⊥
IsValuesReading bytes (Err Shape) = (d : Data) × IsReadAs bytes d × (values_shape d ≡ None)
IsValuesReading bytes (Err Version) = (d : Data) × IsReadAs bytes d
    × ((c : ParsedValues) × (values_shape d ≡ Some c) × (c.version ≢ 3))
IsValuesReading bytes (Err OutOfMemory) = ⊤
IsValuesReading bytes (Err e) = (d : Data) × IsReadAs bytes d × ((v : Values) × DecodesValues d v × AreRefused v e)

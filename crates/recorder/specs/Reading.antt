-- What the bytes of a recording give, from what `serde_json` reads of them: an execution, or the
-- first refusal.
use Rattle.std.specs.Prelude.{◌≡◌, ◌⊎◌, ◌^◌, ◌==◌, ◌&&◌, ℕ, suc, List, [], ◌∷◌, Option, None, Some, is_some}
use Rattle.std.specs.Prelude.{option_map, option_and_then, Result, Ok, Err, codes, nat_lt, bytes_eq}
use Rattle.std.specs.Prelude.{if◌then◌else◌, ⊤}
use Rattle.serde_json.specs.Data.{Data, Items, no_items, item, Members, no_members, member}
use Rattle.serde_json.specs.Find.{get, as_null, as_number, as_u64, as_str, as_array, as_object}
use Rattle.recording.specs.declared.event.Event.{Event}
use Rattle.recording.specs.declared.event.Event.TheVariants.{L, S, R, C, F}
use Rattle.recording.specs.declared.fault.RecError.{RecError}
use Rattle.recording.specs.declared.fault.RecError.TheVariants.{NotJson, Shape, Version, OutOfMemory}
use Rattle.recording.specs.declared.size.RecordingSize.{RecordingSize}
use Rattle.recording.specs.declared.size.RecordingSize.TheVariants.{Short}
use Rattle.recording.specs.Execution.{Execution}
use Rattle.recording.specs.Recording.{IsRecordingWithin}
use Rattle.recorder.specs.ParsedModel.{ParsedModel, execution_of, IsVersioned}
use Rattle.recording.specs.Refusals.{IsRefusal}
use Rattle.recorder.specs.Text.{IsReadAs}

-- a natural number of any size: a version, an address, or the number of an event
abbrev pub natural : Data → Option ℕ
natural d = option_and_then as_u64 (as_number d)

-- a value of 32 bits
abbrev pub value_word : ℕ → Option ℕ
value_word n = if nat_lt n (2 ^ 32) then Some n else None

abbrev pub value_in : Data → Option ℕ
value_in d = option_and_then value_word (natural d)

-- a source: null, or the number of an event
abbrev pub source_in : Data → Option (Option ℕ)
source_in d = if is_some (as_null d) then Some None else option_map Some (natural d)

-- what a list gives, where each item gives something
abbrev pub each : {A : Type 0} → (Data → Option A) → Items → Option (List A)
each f no_items = Some []
each f (item d ds) = option_and_then (λ x. option_map (λ xs. x ∷ xs) (each f ds)) (f d)

abbrev pub list_in : {A : Type 0} → (Data → Option A) → Data → Option (List A)
list_in f d = option_and_then (each f) (as_array d)

-- how many keys an object has
abbrev pub count_members : Members → ℕ
count_members no_members = 0
count_members (member k d ms) = suc (count_members ms)

-- what the value at a key gives
abbrev pub at_key : {A : Type 0} → (Data → Option A) → List ℕ → Data → Option A
at_key f k d = option_and_then f (get k d)

-- what reads, with this address, this value and this source
abbrev pub read_of : (ℕ → ℕ → Option ℕ → Event) → Option ℕ → Option ℕ → Option (Option ℕ) → Option Event
read_of make a r s = option_and_then (λ x. option_and_then (λ y. option_map (λ z. make x y z) s) r) a

-- an event of a kind with this many keys, by what its keys give
unfoldable pub member_event : List ℕ → ℕ → Option ℕ → Option ℕ → Option (Option ℕ) → Option ℕ → Option Event
member_event k n a r s w =
    if bytes_eq k (codes "L") && n == 4 then read_of L a r s
    else (if bytes_eq k (codes "S") && n == 3 then option_and_then (λ x. option_map (λ v. S x v) w) a
    else (if bytes_eq k (codes "R") && n == 5 then option_and_then (λ v. read_of (λ x y z. R x y z v) a r s) w
    else (if bytes_eq k (codes "C") && n == 4 then read_of C a r s
    else (if bytes_eq k (codes "F") && n == 1 then Some F else None))))

-- an event: an object with its kind and what the kind has
abbrev pub event_in : Data → Option Event
event_in d = option_and_then (λ n. option_and_then (λ k. member_event k n
    (at_key natural (codes "a") d) (at_key value_in (codes "r") d)
    (at_key source_in (codes "s") d) (at_key value_in (codes "w") d))
    (at_key as_str (codes "k") d)) (option_map count_members (as_object d))

-- contents of these parts, with initial values or without
abbrev pub parsed_parts : Option ℕ → Option (List (List Event)) → Option (List (List ℕ)) → Option (List ℕ)
    → Option ParsedModel
parsed_parts version cores writes values =
    option_and_then (λ v. option_and_then (λ cs. option_map (λ ws. record {
      version = v;
      cores = cs;
      write_lists = ws;
      values = values;
    }) writes) cores) version

-- contents with this many keys, by what the keys give: the fourth of four has initial values
unfoldable pub contents_of : ℕ → Option ℕ → Option (List (List Event)) → Option (List (List ℕ)) → Option (List ℕ)
    → Option ParsedModel
contents_of n version cores writes init =
    if n == 3 then parsed_parts version cores writes None
    else (if n == 4 then option_and_then (λ values. parsed_parts version cores writes (Some values)) init else None)

-- the contents of a text: an object with its version, its cores, its write lists and perhaps initial values
unfoldable pub shape_in : Data → Option ParsedModel
shape_in d = option_and_then (λ n. contents_of n (at_key natural (codes "version") d)
    (at_key (list_in (list_in event_in)) (codes "cores") d)
    (at_key (list_in (list_in natural)) (codes "writes") d) (at_key (list_in value_in) (codes "init") d))
    (option_map count_members (as_object d))

-- a value has the contents of a text of its version, and they tell the execution
pub record Decodes (d : Data) (x : Execution) : Type 0 where
  pub contents : ParsedModel
  pub shape : shape_in d ≡ Some contents
  pub versioned : IsVersioned contents
  pub same : execution_of contents ≡ x

-- values alone: a text of version 3, without write lists
abbrev pub IsValuesAlone : Data → Type 0
IsValuesAlone d = (at_key natural (codes "version") d ≡ Some 3) × (get (codes "writes") d ≡ None)

-- the version is of values alone, or not the one of the contents
abbrev pub HasOtherVersion : Data → Type 0
HasOtherVersion d = IsValuesAlone d ⊎ ((c : ParsedModel) × (shape_in d ≡ Some c) × (¬ IsVersioned c))

-- what a reader of recordings of a size may answer to these bytes: the first refusal in this order; memory alone is
-- left open
abbrev pub IsReadingOf : RecordingSize → List ℕ → Result Execution RecError → Type 0
IsReadingOf size bytes (Ok x) = (d : Data) × IsReadAs bytes d × Decodes d x × IsRecordingWithin size x
IsReadingOf size bytes (Err NotJson) = (d : Data) → IsReadAs bytes d → ⊥
IsReadingOf size bytes (Err Shape) = (d : Data) × IsReadAs bytes d × (shape_in d ≡ None) × (¬ IsValuesAlone d)
IsReadingOf size bytes (Err Version) = (d : Data) × IsReadAs bytes d × HasOtherVersion d
IsReadingOf size bytes (Err OutOfMemory) = ⊤
IsReadingOf size bytes (Err e) = (d : Data) × IsReadAs bytes d × ((x : Execution) × Decodes d x × IsRefusal size x e)

-- what a reader of short recordings may answer
abbrev pub IsReadingResult : List ℕ → Result Execution RecError → Type 0
IsReadingResult bytes r = IsReadingOf Short bytes r

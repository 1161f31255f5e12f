-- The text of values: JSON with the keys of each object in ascending order.
use Rattle.std.specs.Prelude.{◌++◌, ℕ, List, [], ◌∷◌, Option, Some, None, is_some, codes, drop, length}
use Rattle.std.specs.Prelude.{slice_index_or, if◌then◌else◌, ⊤}
use Rattle.std.specs.List.{list_any, AllByRecursion}
use Rattle.serde_json.specs.Data.{Data, null, string, object}
use Rattle.serde_json.specs.Written.{compact_text}
use Rattle.recording.specs.declared.event.Event.{Event}
use Rattle.recording.specs.declared.event.Event.TheVariants.{L, S, R, C, F}
use Rattle.recorder.specs.Text.{number_data, list_data, members, read_members, event_data}
use Rattle.recorder.specs.Written.{IsWord, IsWordSource}
use Rattle.values.specs.Values.{Values}
use Rattle.values_text.specs.Reading.{KnownEvent}

-- the events of a core with their sources, of which the first is that of the first event
abbrev pub known_core : List Event → List (Option (Option ℕ)) → List KnownEvent
known_core [] sources = []
known_core (e ∷ es) sources = (e, slice_index_or sources 0 None) ∷ known_core es (drop 1 sources)

-- and of all cores
abbrev pub known_cores : List (List Event) → List (Option (Option ℕ)) → List (List KnownEvent)
known_cores [] sources = []
known_cores (es ∷ rest) sources = known_core es sources ∷ known_cores rest (drop (length es) sources)

-- what an event of this kind that reads has: its source where that is known
abbrev pub known_members : List ℕ → ℕ → ℕ → Option (Option ℕ) → List (List ℕ × Data)
known_members kind a r None =
    (codes "a", number_data a) ∷ (codes "k", string kind) ∷ (codes "r", number_data r) ∷ []
known_members kind a r (Some s) = read_members kind a r s

-- an event is an object with its kind and what the kind has
abbrev pub known_data : KnownEvent → Data
known_data (L a r s, o) = object (members (known_members (codes "L") a r o))
known_data (S a w, o) = event_data (S a w)
known_data (R a r s w, o) = object (members (known_members (codes "R") a r o ++ (codes "w", number_data w) ∷ []))
known_data (C a r s, o) = object (members (known_members (codes "C") a r o))
known_data (F, o) = event_data F

-- a final value is null where it is not known
abbrev pub final_data : Option ℕ → Data
final_data None = null
final_data (Some n) = number_data n

-- contents of version 3, with final values or without
abbrev pub contents_data_3 : List (List KnownEvent) → Option (List (Option ℕ)) → List ℕ → Data
contents_data_3 cores None initial = object (members ((codes "cores", list_data (list_data known_data) cores)
    ∷ (codes "init", list_data number_data initial) ∷ (codes "version", number_data 3) ∷ []))
contents_data_3 cores (Some fs) initial = object (members ((codes "cores", list_data (list_data known_data) cores)
    ∷ (codes "final", list_data final_data fs) ∷ (codes "init", list_data number_data initial)
    ∷ (codes "version", number_data 3) ∷ []))

-- the final values that the text has: none where none is known
abbrev pub written_finals : List (Option ℕ) → Option (List (Option ℕ))
written_finals fs = if list_any is_some fs then Some fs else None

-- the value that is written of values
abbrev pub values_data : Values → Data
values_data v = contents_data_3 (known_cores v.cores v.sources) (written_finals v.final_values) v.initial

-- the text without spaces, and a newline
unfoldable pub text_of_values : Values → List ℕ
text_of_values v = compact_text (values_data v) ++ 10 ∷ []

-- a source that is known has 32 bits, if it is a write
abbrev pub IsWordKnown : Option (Option ℕ) → Type 0
IsWordKnown None = ⊤
IsWordKnown (Some s) = IsWordSource s

-- each number of an event and of its source fits
abbrev pub IsFittingKnown : KnownEvent → Type 0
IsFittingKnown (L a r s, o) = IsWord a × IsWord r × IsWordKnown o
IsFittingKnown (S a w, o) = IsWord a × IsWord w
IsFittingKnown (R a r s w, o) = IsWord a × IsWord r × IsWordKnown o × IsWord w
IsFittingKnown (C a r s, o) = IsWord a × IsWord r × IsWordKnown o
IsFittingKnown (F, o) = ⊤

-- a final value fits
abbrev pub IsFittingFinal : Option ℕ → Type 0
IsFittingFinal None = ⊤
IsFittingFinal (Some n) = IsWord n

-- each final value that the text has fits
abbrev pub AreFittingFinals : Option (List (Option ℕ)) → Type 0
AreFittingFinals None = ⊤
AreFittingFinals (Some fs) = AllByRecursion IsFittingFinal fs

-- each number of values fits
pub record AreFittingNumbers (v : Values) : Type 0 where
  pub events : AllByRecursion (AllByRecursion IsFittingKnown) (known_cores v.cores v.sources)
  pub finals : AreFittingFinals (written_finals v.final_values)
  pub words : AllByRecursion IsWord v.initial

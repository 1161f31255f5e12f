-- The text of a recording: JSON with the keys of each object in ascending order.
use Rattle.std.specs.Prelude.{◌≡◌, ◌==◌, ◌&&◌, not, ℕ, Bool, IsUtf8, List, [], ◌∷◌, ◌++◌}
use Rattle.std.specs.Prelude.{Option, Some, None, codes, map, if◌then◌else◌}
use Rattle.std.specs.List.{list_all, list_any}
use Rattle.serde_json.specs.Data.{Data, null, number, unsigned, string, array, object, Members, no_members}
use Rattle.serde_json.specs.Data.{member}
use Rattle.serde_json.specs.Read.{read}
use Rattle.serde_json.specs.View.{items_of}
use Rattle.serde_json.specs.Written.{compact_text}
use Rattle.recording.specs.declared.event.Event.{Event}
use Rattle.recording.specs.declared.event.Event.TheVariants.{L, S, R, C, F}
use Rattle.recording.specs.Event.{is_failed_cas}
use Rattle.recording.specs.Execution.{Execution}

-- a number
abbrev pub number_data : ℕ → Data
number_data n = number (unsigned n)

-- a list, each of whose items is written in one way
abbrev pub list_data : {A : Type 0} → (A → Data) → List A → Data
list_data item_data xs = array (items_of (map item_data xs))

-- members in the order of the list
abbrev pub members : List (List ℕ × Data) → Members
members [] = no_members
members (m ∷ ms) = member m.0 m.1 (members ms)

-- a source is the number of a write, or null for the initial value
abbrev pub source_data : Option ℕ → Data
source_data None = null
source_data (Some s) = number_data s

-- what an event of this kind that reads has
abbrev pub read_members : List ℕ → ℕ → ℕ → Option ℕ → List (List ℕ × Data)
read_members kind a r s = (codes "a", number_data a) ∷ (codes "k", string kind) ∷ (codes "r", number_data r)
    ∷ (codes "s", source_data s) ∷ []

-- an event is an object with its kind and what the kind has
abbrev pub event_data : Event → Data
event_data (L a r s) = object (members (read_members (codes "L") a r s))
event_data (S a w) = object (members ((codes "a", number_data a) ∷ (codes "k", string (codes "S"))
    ∷ (codes "w", number_data w) ∷ []))
event_data (R a r s w) = object (members (read_members (codes "R") a r s ++ (codes "w", number_data w) ∷ []))
event_data (C a r s) = object (members (read_members (codes "C") a r s))
event_data F = object (members ((codes "k", string (codes "F")) ∷ []))

-- a core has a compare-and-swap that failed
abbrev pub has_failed_cas : List (List Event) → Bool
has_failed_cas cores = list_any (list_any is_failed_cas) cores

-- version 1 tells it: no compare-and-swap failed, and each address begins as 0
unfoldable pub is_of_version_1 : Execution → Bool
is_of_version_1 x = not (has_failed_cas x.cores) && list_all (λ v. v == 0) x.initial

-- contents without initial values are of version 1, and with them of version 2
abbrev pub contents_data : Option (List ℕ) → List (List Event) → List (List ℕ) → Data
contents_data None cores lists = object (members ((codes "cores", list_data (list_data event_data) cores)
    ∷ (codes "version", number_data 1) ∷ (codes "writes", list_data (list_data number_data) lists) ∷ []))
contents_data (Some values) cores lists = object (members ((codes "cores", list_data (list_data event_data) cores)
    ∷ (codes "init", list_data number_data values) ∷ (codes "version", number_data 2)
    ∷ (codes "writes", list_data (list_data number_data) lists) ∷ []))

-- the initial values that the text of an execution has: none where version 1 tells all
abbrev pub values_of : Execution → Option (List ℕ)
values_of x = if is_of_version_1 x then None else Some x.initial

-- the value that is written of an execution
abbrev pub data_of : Execution → Data
data_of x = contents_data (values_of x) x.cores x.write_lists

-- the text without spaces, and a newline
unfoldable pub recording_text : Execution → List ℕ
recording_text x = compact_text (data_of x) ++ 10 ∷ []

-- d is the value that `serde_json` reads of the bytes
abbrev pub IsReadAs : List ℕ → Data → Type 0
IsReadAs bytes d = IsUtf8 bytes × (read bytes ≡ Some d)

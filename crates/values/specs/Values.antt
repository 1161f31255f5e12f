-- Values alone: what each core read and wrote, and what completes it by sources and write lists.
use Rattle.std.specs.Prelude.{◌≡◌, ℕ, Option, Some, None, List, [], map, slice_index_or}
use Rattle.recording.specs.declared.event.Event.{Event}
use Rattle.recording.specs.declared.event.Event.TheVariants.{L, R, C}
use Rattle.recording.specs.Execution.{Execution, source_of}
use Rattle.recording.specs.Recording.{IsShortRecording}
use Rattle.recording.specs.Tso.{IsTsoOrder}
use Rattle.values.specs.Final.{final_value}

-- an event without its source
abbrev pub unsourced : Event → Event
unsourced (L a r s) = L a r None
unsourced (R a r s w) = R a r None w
unsourced (C a r s) = C a r None
unsourced e = e

-- the events of each core in program order, without sources; for each event by its number the source that is known, if
-- one is (the initial value is `Some None`); for each address the value that it begins with, and the one that it ends
-- with, if that is known
pub record Values : Type 0 where
  pub cores : List (List Event)
  pub sources : List (Option (Option ℕ))
  pub initial : List ℕ
  pub final_values : List (Option ℕ)

-- the events of a core
abbrev pub core_events : Values → ℕ → List Event
core_events v c = slice_index_or v.cores c []

-- the source that is known of event e
abbrev pub known_source : Values → ℕ → Option (Option ℕ)
known_source v e = slice_index_or v.sources e None

-- the value that address a is known to end with
abbrev pub known_final : Values → ℕ → Option ℕ
known_final v a = slice_index_or v.final_values a None

-- a recording of these values, with the sources and the final values that are known, and an order that explains it
pub record IsCompletion (v : Values) (x : Execution) (m : List ℕ) : Type 0 where
  pub cores : map (map unsourced) x.cores ≡ v.cores
  pub initial : x.initial ≡ v.initial
  pub sources : (e : ℕ) (s : Option ℕ) → known_source v e ≡ Some s → source_of x e ≡ s
  pub final_values : (a n : ℕ) → known_final v a ≡ Some n → final_value x a ≡ n
  pub recording : IsShortRecording x
  pub tso : IsTsoOrder x m

-- TSO allows the values: something completes them
abbrev pub AreAllowed : Values → Type 0
AreAllowed v = (x : Execution) × (m : List ℕ) × IsCompletion v x m

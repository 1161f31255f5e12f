-- Pairs of events that values force, by the events' numbers.
use Rattle.std.specs.Prelude.{◌≡◌, ◌<◌, ℕ, Bool, true, List, [], map, length, slice_index_or}
use Rattle.bitrow.specs.Bits.{is_in}
use Rattle.recording.specs.Execution.{placed_from, Reads}
use Rattle.recording.specs.declared.event.Event.{Event}
use Rattle.values.specs.Values.{Values}
use Rattle.values.specs.Refused.{events_alone}
use Rattle.completion.specs.declared.table.Placed.{Placed}
use Rattle.completion.specs.declared.forcing.Read.{Read}
use Rattle.completion.specs.Search.{IsForced}
use Rattle.completion.specs.Sources.{IsFoundSource}

-- an event with its core, as a pair
abbrev pub pair_of : Placed → ℕ × Event
pair_of p = (p.core, p.event)

-- an event on a core
abbrev pub on_core : ℕ → Event → ℕ × Event
on_core c e = (c, e)

-- all events with their cores, by their numbers
abbrev pub IsTable : Values → List Placed → Type 0
IsTable v items = map pair_of items ≡ placed_from 0 v.cores

-- a read of the table, with its address and its source, as far as it is known
pub record IsRead (v : Values) (items : List Placed) (r : Read) : Type 0 where
  pub inside : r.number < length items
  pub reads : Reads (events_alone v) r.number r.address
  pub source : IsFoundSource v r.number r.address r.source

-- each row is as long as there are rows
abbrev pub IsSquare : List (List Bool) → Type 0
IsSquare rows = (i : ℕ) → i < length rows → length (slice_index_or rows i []) ≡ length rows

-- the row of e has f
abbrev pub HasPair : List (List Bool) → ℕ → ℕ → Type 0
HasPair rows e f = is_in (slice_index_or rows e []) f ≡ true

-- each pair in the rows is forced
abbrev pub AreForced : Values → List (List Bool) → Type 0
AreForced v rows = (e f : ℕ) → HasPair rows e f → IsForced v e f

-- Events of an execution in a list, with their places.
use Rattle.std.specs.Prelude.{◌≡◌, ◌<◌, ℕ, List, length, slice_index, slice_index_or}
use Rattle.recording.specs.Execution.{Execution}
use Rattle.relations.specs.declared.indexed.IndexedEvent.{IndexedEvent}
use Rattle.relations.specs.Indexed.{IsIndexed}

-- numbers of events of an execution
pub record PlacedEvents : Type 0 where
  pub execution : Execution
  pub numbers : List ℕ

-- the events with these numbers
abbrev pub placed_events : Execution → List ℕ → PlacedEvents
placed_events x numbers = record { execution = x; numbers = numbers }

-- these are they, with their places
pub record ArePlaced (p : PlacedEvents) (es : List IndexedEvent) : Type 0 where
  pub size : length es ≡ length p.numbers
  pub each : (i : ℕ) (d : IndexedEvent) → i < length es
      → IsIndexed p.execution (slice_index_or es i d)
      × ((slice_index_or es i d).number ≡ slice_index p.numbers i)

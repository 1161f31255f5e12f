-- Sources that reads can have, as far as values tell.
use Rattle.std.specs.Prelude.{◌≡◌, ◌≢◌, ◌⊎◌, ℕ, Option, Some, None, ⊤}
use Rattle.recording.specs.Event.{value_read, value_written}
use Rattle.recording.specs.Execution.{event_at, initial_value, Writes, ProgramOrder}
use Rattle.values.specs.Values.{Values, known_source}
use Rattle.values.specs.Refused.{events_alone}
use Rattle.completion.specs.declared.sources.Source.{Source}
use Rattle.completion.specs.declared.sources.Source.TheVariants.{Open, Initial, Only}

-- event u, which is not e, writes what event e reads of address a
pub record Matches (v : Values) (e a u : ℕ) : Type 0 where
  pub writes : Writes (events_alone v) u a
  pub value : value_written (event_at (events_alone v) u) ≡ value_read (event_at (events_alone v) e)
  pub other : u ≢ e

-- and is not later on its core
pub record MayGive (v : Values) (e a u : ℕ) : Type 0 where
  pub writes : Writes (events_alone v) u a
  pub value : value_written (event_at (events_alone v) u) ≡ value_read (event_at (events_alone v) e)
  pub other : u ≢ e
  pub earlier : ¬ ProgramOrder (events_alone v) e u

-- no other source of event e, which reads address a, has its value: no write, or this write alone and not the initial
-- value. The write may be later on its core, though it gives no value then: that is what a circle shows
abbrev pub IsOnlyByValue : Values → ℕ → ℕ → Option ℕ → Type 0
IsOnlyByValue v e a None = (u : ℕ) → ¬ MayGive v e a u
IsOnlyByValue v e a (Some w) = Matches v e a w × ((u : ℕ) → MayGive v e a u → u ≡ w)
    × (value_read (event_at (events_alone v) e) ≢ initial_value (events_alone v) a)

-- event e, which reads address a, can have this source alone: it is known, or no other has its value
abbrev pub IsOnlySource : Values → ℕ → ℕ → Option ℕ → Type 0
IsOnlySource v e a s = (known_source v e ≡ Some s) ⊎ IsOnlyByValue v e a s

-- as far as it is found
abbrev pub IsFoundSource : Values → ℕ → ℕ → Source → Type 0
IsFoundSource v e a Open = ⊤
IsFoundSource v e a Initial = IsOnlySource v e a None
IsFoundSource v e a (Only w) = IsOnlySource v e a (Some w)

-- a source that is known
abbrev pub found_of : Option ℕ → Source
found_of None = Initial
found_of (Some w) = Only w

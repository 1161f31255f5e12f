-- Values that one recording alone has.
use Rattle.std.specs.Prelude.{◌≡◌, ℕ, Option, Some, None, map}
use Rattle.recording.specs.Event.{value_read}
use Rattle.recording.specs.Execution.{Execution, event_at, source_of, Reads, Writes}
use Rattle.recording.specs.Recording.{IsShortRecording}
use Rattle.recording.specs.Tso.{Gives}
use Rattle.values.specs.Final.{final_value}
use Rattle.values.specs.Values.{Values, known_final, known_source, unsourced}
use Rattle.values.specs.Refused.{events_alone}
use Rattle.completion.specs.Part.{MayFeed}

-- a recording of these values, with the sources and the final values that are known, whether TSO allows it or not
pub record HasValues (v : Values) (x : Execution) : Type 0 where
  pub cores : map (map unsourced) x.cores ≡ v.cores
  pub initial : x.initial ≡ v.initial
  pub sources : (e : ℕ) (s : Option ℕ) → known_source v e ≡ Some s → source_of x e ≡ s
  pub final_values : (a n : ℕ) → known_final v a ≡ Some n → final_value x a ≡ n
  pub recording : IsShortRecording x

-- a recording of these values, and the only one
pub record IsOnlyRecording (v : Values) (x : Execution) : Type 0 where
  pub has : HasValues v x
  pub only : (y : Execution) → HasValues v y → y ≡ x

-- s gives event e the value that it read, and is its source where that is known
pub record MayGiveValue (v : Values) (e : ℕ) (s : Option ℕ) : Type 0 where
  pub address : ℕ
  pub reads : Reads (events_alone v) e address
  pub gives : Gives (events_alone v) address s (value_read (event_at (events_alone v) e))
  pub known : (t : Option ℕ) → known_source v e ≡ Some t → t ≡ s

-- each read has one source at most, and each address one write
pub record AreDetermined (v : Values) : Type 0 where
  pub sources : (e : ℕ) (s t : Option ℕ) → MayGiveValue v e s → MayGiveValue v e t → s ≡ t
  pub writes : (a w u : ℕ) → Writes (events_alone v) w a → Writes (events_alone v) u a → w ≡ u

-- event e has one source at most, which is another event or the initial value, and no other event writes the address
-- that it writes
pub record HasNoChoice (v : Values) (e : ℕ) : Type 0 where
  pub sources : (s t : Option ℕ) → MayGiveValue v e s → MayGiveValue v e t → s ≡ t
  pub other : ¬ MayGiveValue v e (Some e)
  pub writes : (a u : ℕ) → Writes (events_alone v) e a → Writes (events_alone v) u a → e ≡ u

-- so it is with each event
abbrev pub LeaveNoChoice : Values → Type 0
LeaveNoChoice v = (e : ℕ) → HasNoChoice v e

-- a write that may feed event e, or none where none may
abbrev pub IsFeeder : Values → ℕ → Option ℕ → Type 0
IsFeeder v e None = (w : ℕ) → ¬ MayFeed v e (Some w)
IsFeeder v e (Some w) = MayFeed v e (Some w)

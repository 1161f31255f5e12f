-- What values have to be like, and why they are refused: the first refusal in the order of the tests, with the least
-- event.
use Rattle.std.specs.Prelude.{◌≡◌, ◌<◌, ◌≤◌, ◌⊎◌, ℕ, Option, Some, None, [], length, ⊤}
use Rattle.common.specs.declared.limits.TheConstants.{MAX_CORES, MAX_EVENTS, MAX_ADDRESSES}
use Rattle.recording.specs.declared.fault.RecError.{RecError}
use Rattle.recording.specs.declared.fault.RecError.TheVariants.{Limits, Source, Value}
use Rattle.recording.specs.Event.{value_read}
use Rattle.recording.specs.Execution.{Execution, event_count, event_at, Reads, Writes}
use Rattle.recording.specs.Recording.{executed}
use Rattle.recording.specs.Refusals.{IsLeastWithout}
use Rattle.recording.specs.Tso.{IsValueOf}
use Rattle.values.specs.Values.{Values, known_source}

-- the events and the initial values, as an execution without write lists
abbrev pub events_alone : Values → Execution
events_alone v = executed v.cores [] v.initial

-- they are within the limits of recordings, each event has a place for its source, each address that is used has an
-- initial value, and each that has one has a place for its final value
pub record AreWithinLimits (v : Values) : Type 0 where
  pub few_cores : length v.cores ≤ MAX_CORES
  pub few_events : event_count (events_alone v) ≤ MAX_EVENTS
  pub few_addresses : length v.initial ≤ MAX_ADDRESSES
  pub addresses : (e a : ℕ) → Reads (events_alone v) e a ⊎ Writes (events_alone v) e a → a < length v.initial
  pub sources : length v.sources ≡ event_count (events_alone v)
  pub final_values : length v.final_values ≡ length v.initial

-- what reads address a may have this source: the initial value, or a write to the address
abbrev pub IsPossible : Execution → ℕ → Option ℕ → Type 0
IsPossible x a None = ⊤
IsPossible x a (Some w) = Writes x w a

-- event e reads, and may have its source, where this is known
abbrev pub HasKnownSource : Values → ℕ → Type 0
HasKnownSource v e = (s : Option ℕ) → known_source v e ≡ Some s
    → (a : ℕ) × Reads (events_alone v) e a × IsPossible (events_alone v) a s

-- the value that event e reads is that of its source, where this is known
abbrev pub HasKnownValue : Values → ℕ → Type 0
HasKnownValue v e = (a : ℕ) (s : Option ℕ) → Reads (events_alone v) e a → known_source v e ≡ Some s
    → IsValueOf (events_alone v) a s (value_read (event_at (events_alone v) e))

-- they break no rule
pub record ObeyRules (v : Values) : Type 0 where
  pub within : AreWithinLimits v
  pub sources : (e : ℕ) → HasKnownSource v e
  pub values : (e : ℕ) → HasKnownValue v e

-- what is refused first; the other refusals are not of values
abbrev pub AreRefused : Values → RecError → Type 0
AreRefused v Limits = ¬ AreWithinLimits v
AreRefused v (Source e) = AreWithinLimits v × IsLeastWithout (HasKnownSource v) e
AreRefused v (Value e) = AreWithinLimits v × ((f : ℕ) → HasKnownSource v f) × IsLeastWithout (HasKnownValue v) e
AreRefused v e = ⊥

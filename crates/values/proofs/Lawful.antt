-- From the tests of single events to all.
use Rattle.std.proofs.Common.{◌≡◌, ◌<◌, ◌≤◌, ◌⊎◌, inl, inr, ℕ, None, length, arith}
use Rattle.std.proofs.lemmas.Bool.{cases_lt}
use Rattle.std.proofs.lemmas.List.{get_or_past}
use Rattle.recording.specs.Execution.{event_count, Reads, Writes}
use Rattle.recording.specs.EventLaws.{Reads-event, Writes-event}
use Rattle.values.specs.Values.{Values, known_source}
use Rattle.values.specs.Refused.{events_alone, AreWithinLimits, HasKnownSource, HasKnownValue}

-- what holds of each event that reads or writes holds of all numbers
pub initial_values_all : (v : Values) → ((e : ℕ) → e < event_count (events_alone v) → (a : ℕ)
    → Reads (events_alone v) e a ⊎ Writes (events_alone v) e a → a < length v.initial)
    → (e a : ℕ) → Reads (events_alone v) e a ⊎ Writes (events_alone v) e a → a < length v.initial
initial_values_all v each e a uses = elim uses [
  | inl reads ↦ each e (Reads-event (events_alone v) e a reads) a (inl reads)
  | inr writes ↦ each e (Writes-event (events_alone v) e a writes) a (inr writes)
]

-- past the last event no source is known
no_source : (v : Values) (e : ℕ) → length v.sources ≤ e → known_source v e ≡ None
no_source v e past = get_or_past v.sources e None past

-- so it is with sources
pub sources_all : (v : Values) → AreWithinLimits v
    → ((e : ℕ) → e < event_count (events_alone v) → HasKnownSource v e) → (e : ℕ) → HasKnownSource v e
sources_all v within each e s known = elim (cases_lt e (event_count (events_alone v))) [
  | inl here ↦ each e here s known
  | inr past ↦ let none = no_source v e (omega (arith, past, within.sources)) in absurd cc
]

-- and with values
pub values_all : (v : Values) → ((e : ℕ) → e < event_count (events_alone v) → HasKnownValue v e)
    → (e : ℕ) → HasKnownValue v e
values_all v each e a s reads from = each e (Reads-event (events_alone v) e a reads) a s reads from

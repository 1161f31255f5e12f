-- Parts of values: some of their events alone, and parts that TSO does not allow and of which each event is needed.
use Rattle.std.specs.Prelude.{◌≡◌, ◌≢◌, ◌<◌, ◌==◌, ℕ, Option, Some, None, List, map, filter, length, slice_index}
use Rattle.std.specs.Prelude.{option_map, ⊤}
use Rattle.recording.specs.declared.event.Event.{Event}
use Rattle.recording.specs.Event.{value_read, value_written}
use Rattle.recording.specs.Execution.{event_count, event_at, core_of, Reads, Writes}
use Rattle.recording.specs.Order.{place, times}
use Rattle.recording.specs.Tso.{Gives}
use Rattle.values.specs.Values.{Values, AreAllowed, core_events, known_source, known_final}
use Rattle.values.specs.Refused.{events_alone}
use Rattle.completion.specs.declared.part.Part.{Part}

-- s gives event e the value that it read, is another event, and is its source where that is known
pub record MayFeed (v : Values) (e : ℕ) (s : Option ℕ) : Type 0 where
  pub address : ℕ
  pub reads : Reads (events_alone v) e address
  pub gives : Gives (events_alone v) address s (value_read (event_at (events_alone v) e))
  pub other : s ≢ Some e
  pub known : (t : Option ℕ) → known_source v e ≡ Some t → t ≡ s

-- what may feed event e is the initial value, or among these events
abbrev pub IsAmong : (ℕ → Type 0) → Option ℕ → Type 0
IsAmong P None = ⊤
IsAmong P (Some w) = P w

-- something among these events may feed event e
abbrev pub IsFedAmong : Values → (ℕ → Type 0) → ℕ → Type 0
IsFedAmong v P e = (s : Option ℕ) × MayFeed v e s × IsAmong P s

-- each of these events that something may feed is fed among them
abbrev pub AreFed : Values → (ℕ → Type 0) → Type 0
AreFed v P = (e : ℕ) (s : Option ℕ) → P e → MayFeed v e s → IsFedAmong v P e

-- the members of a list
abbrev pub IsMember : List ℕ → ℕ → Type 0
IsMember ks e = 0 < times ks e

-- of these events the most that are fed among themselves
pub record AreMostFed (v : Values) (P : ℕ → Type 0) (ks : List ℕ) : Type 0 where
  pub these : (e : ℕ) → IsMember ks e → P e
  pub fed : AreFed v (IsMember ks)
  pub most : (es : List ℕ) → AreFed v (IsMember es) → ((e : ℕ) → IsMember es e → P e)
      → (e : ℕ) → IsMember es e → IsMember ks e

-- numbers of events, ascending
pub record AreEvents (v : Values) (ks : List ℕ) : Type 0 where
  pub ascending : (i j : ℕ) → i < j → j < length ks → slice_index ks i < slice_index ks j
  pub events : (e : ℕ) → IsMember ks e → e < event_count (events_alone v)

-- the events ks of core c
abbrev pub events_on : Values → List ℕ → ℕ → List Event
events_on v ks c = map (event_at (events_alone v)) (filter (λ k. core_of (events_alone v) k == c) ks)

-- the source that is known of event k, by its place in ks
abbrev pub source_in : Values → List ℕ → ℕ → Option (Option ℕ)
source_in v ks k = option_map (option_map (place ks)) (known_source v k)

-- event w writes the value n to address a
pub record WritesValue (v : Values) (a n w : ℕ) : Type 0 where
  pub writes : Writes (events_alone v) w a
  pub value : value_written (event_at (events_alone v) w) ≡ n

-- if some event writes the value n to address a, then one of these does
abbrev pub CanEnd : Values → (ℕ → Type 0) → ℕ → ℕ → Type 0
CanEnd v P a n = (w : ℕ) → WritesValue v a n w → (u : ℕ) × WritesValue v a n u × P u

-- w is v with the events ks alone, numbered by their places there; a final value stays known where it can be written as
-- before
pub record IsRestriction (v : Values) (ks : List ℕ) (w : Values) : Type 0 where
  pub core_count : length w.cores ≡ length v.cores
  pub cores : (c : ℕ) → c < length v.cores → core_events w c ≡ events_on v ks c
  pub sources : w.sources ≡ map (source_in v ks) ks
  pub initial : w.initial ≡ v.initial
  pub final_count : length w.final_values ≡ length v.final_values
  pub finals_kept : (a n : ℕ) → known_final v a ≡ Some n → CanEnd v (IsMember ks) a n → known_final w a ≡ Some n
  pub finals_gone : (a n : ℕ) → known_final w a ≡ Some n
      → (known_final v a ≡ Some n) × CanEnd v (IsMember ks) a n

-- w is v with the events ks alone but e, and but those that e alone could feed, or what they feed, and so on
pub record IsWithout (v : Values) (ks : List ℕ) (e : ℕ) (rest : List ℕ) (w : Values) : Type 0 where
  pub events : AreEvents v rest
  pub most : AreMostFed v (λ f. IsMember ks f × (f ≢ e)) rest
  pub values : IsRestriction v rest w

-- without event e TSO allows what is left
abbrev pub IsNeeded : Values → List ℕ → ℕ → Type 0
IsNeeded v ks e = (rest : List ℕ) × (w : Values) × IsWithout v ks e rest w × AreAllowed w

-- some events, fed among themselves, whose values TSO does not allow, and of which each is needed
pub record IsPart (v : Values) (p : Part) : Type 0 where
  pub events : AreEvents v p.events.items
  pub fed : AreFed v (IsMember p.events.items)
  pub values : IsRestriction v p.events.items p.values
  pub refuted : ¬ AreAllowed p.values
  pub needed : (e : ℕ) → IsMember p.events.items e → IsNeeded v p.events.items e

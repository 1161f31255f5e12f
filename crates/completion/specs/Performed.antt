-- Events that were performed, in an order, with the sources of reads: what is right of them, and where cores and memory
-- have come to.
use Rattle.std.specs.Prelude.{◌≡◌, ◌<◌, ◌≤◌, ◌-◌, ◌^◌, ◌==◌, ◌⊎◌, ◌↔◌, ℕ, Bool, true, false, Option, Some, None, List}
use Rattle.std.specs.Prelude.{[]}
use Rattle.std.specs.Prelude.{◌∷◌, ◌++◌, if◌then◌else◌, nat_lt, length, take, filter, slice_set, slice_get, slice_index}
use Rattle.std.specs.Prelude.{slice_index_or}
use Rattle.common.specs.declared.limits.TheConstants.{MAX_CORES, MAX_EVENTS, MAX_ADDRESSES}
use Rattle.recording.specs.declared.event.Event.{Event}
use Rattle.recording.specs.declared.event.Event.TheVariants.{L, S, R, C, F}
use Rattle.recording.specs.Event.{is_plain_store, read_address, source, value_read, written_address}
use Rattle.recording.specs.Execution.{event_at, event_count, Kept, ProgramOrder, Reads, Writes}
use Rattle.recording.specs.Order.{Before, place, times}
use Rattle.recording.specs.Tso.{Gives}
use Rattle.values.specs.Final.{value_by}
use Rattle.values.specs.Refused.{events_alone}
use Rattle.values.specs.Values.{Values, known_source}
use Rattle.completion.specs.Situation.{memory_of}
use Rattle.completion.specs.Search.{event_of}
use Rattle.completion.specs.Situation.{Memory, events_of, is_free_at, mark, marked, number_of}
use Rattle.situations.specs.Situation.{Situation, drained_of}
use Rattle.situations.specs.Step.{stored_by_event}
use Rattle.situations.specs.Waiting.{between, youngest}
use Rattle.completion.specs.Situation.{IsEnd}
use Rattle.situations.specs.Situation.{place_of}

-- whether an address, if there is one, is address a
abbrev pub is_address : Option ℕ → ℕ → Bool
is_address (Some b) a = b == a
is_address None a = false

-- whether event e writes address a
abbrev pub writes_to : Values → ℕ → ℕ → Bool
writes_to v a e = is_address (written_address (event_at (events_alone v) e)) a

-- the events of a list that write address a
abbrev pub writers : Values → ℕ → List ℕ → List ℕ
writers v a order = filter (writes_to v a) order

-- the last number of a list
abbrev pub last_of : List ℕ → Option ℕ
last_of l = slice_get l (length l - 1)

-- what stands before event e
abbrev pub until : List ℕ → ℕ → List ℕ
until order e = take (place order e) order

-- w is the youngest store to address a of the core of event e before it, and not among the first
pub record IsOwnStore (v : Values) (pre : List ℕ) (e a w : ℕ) : Type 0 where
  pub writes : Writes (events_alone v) w a
  pub store : is_plain_store (event_at (events_alone v) w) ≡ true
  pub earlier : ProgramOrder (events_alone v) w e
  pub waits : times pre w ≡ 0
  pub youngest : (u : ℕ) → Writes (events_alone v) u a → ProgramOrder (events_alone v) u e
      → (0 < times pre u) ⊎ ((u ≡ w) ⊎ ProgramOrder (events_alone v) u w)

-- s is the last write to address a among the first, which have all writes of its core before event e
pub record IsLastInMemory (v : Values) (pre : List ℕ) (e a : ℕ) (s : Option ℕ) : Type 0 where
  pub last : s ≡ last_of (writers v a pre)
  pub none : (u : ℕ) → Writes (events_alone v) u a → ProgramOrder (events_alone v) u e → 0 < times pre u

-- event e, which reads address a after the first, may have the source s
pub record IsSourceAfter (v : Values) (pre : List ℕ) (e a : ℕ) (s : Option ℕ) : Type 0 where
  pub gives : Gives (events_alone v) a s (value_read (event_at (events_alone v) e))
  pub known : (o : Option ℕ) → known_source v e ≡ Some o → s ≡ o
  pub seen : ((w : ℕ) × (s ≡ Some w) × IsOwnStore v pre e a w) ⊎ IsLastInMemory v pre e a s

-- events, each once, after those that memory order keeps before them, with a source of each that reads
pub record ArePerformed (v : Values) (order : List ℕ) (sources : List (Option ℕ)) : Type 0 where
  pub size : length sources ≡ event_count (events_alone v)
  pub events : (e : ℕ) → 0 < times order e → e < event_count (events_alone v)
  pub once : (e : ℕ) → times order e ≤ 1
  pub kept : (e f : ℕ) → Kept (events_alone v) e f → 0 < times order f → Before order e f
  pub reads : (e a : ℕ) → Reads (events_alone v) e a → 0 < times order e
      → IsSourceAfter v (until order e) e a (slice_index_or sources e None)

-- where each core is, up to where memory has its stores, and what memory has, after these events
pub record HaveComeTo (v : Values) (order : List ℕ) (at drained : ℕ → ℕ) (memory : Memory) : Type 0 where
  pub low : (c : ℕ) → drained c ≤ at c
  pub within : (c : ℕ) → at c ≤ length (events_of v.cores c)
  pub stores : (c j : ℕ) → j < length (events_of v.cores c) → is_plain_store (event_of v.cores c j) ≡ true
      → (0 < times order (number_of v.cores c j)) ↔ (j < drained c)
  pub others : (c j : ℕ) → j < length (events_of v.cores c) → is_plain_store (event_of v.cores c j) ≡ false
      → (0 < times order (number_of v.cores c j)) ↔ (j < at c)
  pub values_size : length memory.values ≡ length v.initial
  pub marks_size : length memory.marks ≡ length v.initial
  pub values : (a : ℕ) → a < length v.initial
      → slice_index memory.values a ≡ value_by (events_alone v) a (last_of (writers v a order))
  pub marks : (a : ℕ) → a < length v.initial
      → slice_index memory.marks a ≡ marked v (mark (last_of (writers v a order)))

-- both
pub record IsTrail (v : Values) (order : List ℕ) (sources : List (Option ℕ)) (at drained : ℕ → ℕ) (memory : Memory)
    : Type 0 where
  pub performed : ArePerformed v order sources
  pub come : HaveComeTo v order at drained memory

-- What a core's free event adds

-- the source that a read finds: the store of its core at this place, else the last write in memory
abbrev pub source_found : Values → ℕ → Option ℕ → Option ℕ → Option ℕ
source_found v c None last = last
source_found v c (Some j) last = Some (number_of v.cores c j)

-- the order after core c has executed its event at place j
abbrev pub order_after : Values → List ℕ → ℕ → ℕ → Event → List ℕ
order_after v order c j (L a r s) = order ++ number_of v.cores c j ∷ []
order_after v order c j (S a w) = order
order_after v order c j (R a r s w) = order
order_after v order c j (C a r s) = order ++ number_of v.cores c j ∷ []
order_after v order c j F = order ++ number_of v.cores c j ∷ []

-- and the sources, where memory has its stores before place d
abbrev pub sources_after : Values → List ℕ → List (Option ℕ) → ℕ → ℕ → ℕ → Event → List (Option ℕ)
sources_after v order sources c d j (L a r s) = slice_set sources (number_of v.cores c j) (source_found v c
    (youngest stored_by_event a None d (between (events_of v.cores c) d j)) (last_of (writers v a order)))
sources_after v order sources c d j (S a w) = sources
sources_after v order sources c d j (R a r s w) = sources
sources_after v order sources c d j (C a r s) =
    slice_set sources (number_of v.cores c j) (last_of (writers v a order))
sources_after v order sources c d j F = slice_set sources (number_of v.cores c j) None

-- An execution with the sources

-- the write that an event took its value from
abbrev pub event_source : Event → Option ℕ
event_source e = source e

-- the events of core c that read have their sources by their numbers
abbrev pub AreSourced : Values → List (Option ℕ) → ℕ → List Event → Type 0
AreSourced v sources c es = (j a : ℕ) → j < length es → number_of v.cores c j < 2 ^ 64 - 1
    → read_address (slice_index_or es j F) ≡ Some a
    → source (slice_index_or es j F) ≡ slice_index_or sources (number_of v.cores c j) None

-- Values that a recording can have

-- they are within the limits of recordings, each address that is used has an initial value, and what is known to have a
-- write as its source reads
pub record HaveRoom (v : Values) : Type 0 where
  pub few_cores : length v.cores ≤ MAX_CORES
  pub few_events : event_count (events_alone v) ≤ MAX_EVENTS
  pub few_addresses : length v.initial ≤ MAX_ADDRESSES
  pub addresses : (e a : ℕ) → Reads (events_alone v) e a ⊎ Writes (events_alone v) e a → a < length v.initial
  pub sources : (e w : ℕ) → known_source v e ≡ Some (Some w) → (a : ℕ) × Reads (events_alone v) e a

-- From one situation to another

-- where each core is while core c, at place k, goes on from one situation to another, core by core
abbrev pub going : Situation → Situation → ℕ → ℕ → ℕ → ℕ
going old new c k d = if nat_lt d c then place_of new d else if d == c then k else place_of old d

-- free steps lead each core on to where it is in the second
pub record Settles (v : Values) (old new : Situation) : Type 0 where
  pub low : (c : ℕ) → place_of old c ≤ place_of new c
  pub within : (c : ℕ) → place_of new c ≤ length (events_of v.cores c)
  pub free : (c j : ℕ) → place_of old c ≤ j → j < place_of new c
      → is_free_at v (memory_of new) c (drained_of new c) j ≡ true

-- what was performed leads to the end
abbrev pub LeadsToEnd : Values → List ℕ → List (Option ℕ) → Type 0
LeadsToEnd v order sources = (r : Situation) × IsEnd v r
    × IsTrail v order sources (place_of r) (drained_of r) (memory_of r)

-- What a restriction has of the whole execution.
use Rattle.std.specs.Prelude.{◌≡◌, ◌<◌, ◌↔◌, ℕ, List, map, length, slice_index, All}
use Rattle.recording.specs.Execution.{Execution, event_count, event_at, write_list, initial_value, ProgramOrder}
use Rattle.recording.specs.FirstUse.{IsNumberedByFirstUse}
use Rattle.recording.specs.Order.{place, times}
use Rattle.recording.specs.Tso.{IsWellFormed}
use Rattle.relations.specs.Cycle.{IsLeastCycle}
use Rattle.relations.specs.Forced.{Forced, Overlooks, IsLeastOverlook}
use Rattle.relations.specs.Consistency.{HasNoOverlook, HasNoOrder}
use Rattle.reduction.specs.Restriction.{AreClosed, addresses_of, placed_event, kept_of, restriction}

-- the events of y are those of x that are kept, in the program order of x, each core has one, and so it is
-- with write lists and initial values
pub record IsPart (x : Execution) (ks : List ℕ) (y : Execution) : Type 0 where
  pub count : event_count y ≡ length ks
  pub events : (e : ℕ) → e < length ks → event_at y e ≡ placed_event x (addresses_of x ks) ks (slice_index ks e)
  pub program_order : (e f : ℕ) → e < length ks → f < length ks
      → ProgramOrder y e f ↔ ProgramOrder x (slice_index ks e) (slice_index ks f)
  pub used_cores : All (λ events. 0 < length events) y.cores
  pub write_lists : y.write_lists ≡ map (λ a. kept_of ks (write_list x a)) (addresses_of x ks)
  pub initial : y.initial ≡ map (initial_value x) (addresses_of x ks)

-- the events of y are related as those of x that they are
abbrev pub Restricts : List ℕ → (ℕ → ℕ → Type 0) → (ℕ → ℕ → Type 0) → Type 0
Restricts ks R S = (e f : ℕ) → e < length ks → f < length ks → S e f ↔ R (slice_index ks e) (slice_index ks f)

-- a part that is well formed and numbered by first use; its forced pairs and its overlooks are those of
-- the whole, and so are the least overlook and the least cycle where their events are kept
pub record IsFaithful (x : Execution) (ks : List ℕ) (y : Execution) : Type 0 where
  pub part : IsPart x ks y
  pub well_formed : IsWellFormed y
  pub numbered : IsNumberedByFirstUse y
  pub forced : Restricts ks (Forced x) (Forced y)
  pub overlooks : Restricts ks (Overlooks x) (Overlooks y)
  pub least_overlook : (l s : ℕ) → 0 < times ks l → 0 < times ks s → IsLeastOverlook x l s
      → IsLeastOverlook y (place ks l) (place ks s) × HasNoOrder y
  pub least_cycle : (c : List ℕ) → ((e : ℕ) → 0 < times c e → 0 < times ks e) → IsLeastCycle (Forced x) c
      → IsLeastCycle (Forced y) (map (place ks) c) × HasNoOrder y
  pub no_overlook : HasNoOverlook x → HasNoOverlook y

-- so it is with each restriction of a well-formed execution to events with their sources
abbrev pub EveryRestrictionIsFaithful : Execution → List ℕ → Type 0
EveryRestrictionIsFaithful x ks = IsWellFormed x → AreClosed x ks → IsFaithful x ks (restriction x ks)

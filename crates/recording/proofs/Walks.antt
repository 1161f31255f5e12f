-- A walk over the events of all cores, one after the other, and the slots that it fills.
use Rattle.std.proofs.Common.{◌≡◌, ◌<◌, ◌≤◌, ◌+◌, ◌-◌, ◌++◌, ℕ, inl, inr, List, [], false, ◌∷◌, length, get_or}
use Rattle.std.proofs.Common.{Bool, Option, map, arith, sym, ap, subst, ◌∙◌, Vec, Global}
use Rattle.std.proofs.lemmas.Bool.{cases_lt}
use Rattle.std.proofs.lemmas.List.{get_or_append_left, get_or_at, get_or_default, get_or_past, length-append}
use Rattle.recording.specs.declared.event.Event.{Event}
use Rattle.recording.specs.declared.event.Event.TheVariants.{F}
use Rattle.recording.specs.Execution.{Execution, event_count, event_at}
use Rattle.recording.specs.EventLaws.{event_past}
use Rattle.recording.specs.declared.slots.PackedSlot.{PackedSlot}
use Rattle.recording.specs.Listed.{is_marked, is_placed, low, quiet, slot_at, unpacked, written, written_of, AreNumbered}
use Rattle.recording.proofs.Finds.{IsAfter, after_more, after_found, after_end, core_seen}

-- core k has the events es
pub record IsCore (x : Execution) (k : ℕ) (es : List Event) : Type 0 where
  pub there : k < length x.cores
  pub events : get_or x.cores k [] ≡ es

-- which are those of its vector
pub core_of_vector : (x y : Execution) (vs : List (Vec Event Global)) (k : ℕ) (v : Vec Event Global) (es : List Event)
    → map (λ v. v.items) vs ≡ y.cores → y ≡ x → k < length vs → v ≡ get_or vs k v → es ≡ v.items → IsCore x k es
core_of_vector x y vs k v es are same at read is =
    let cores : map (λ (w : Vec Event Global). w.items) vs ≡ x.cores = are ∙ ap (λ (z : Execution). z.cores) same in
    let seen = core_seen vs x.cores k v (sym cores) at read in
    record { there = seen.0; events = seen.1 ∙ sym is }

-- they are as many as in the list of cores
core_size : (x : Execution) (k : ℕ) (es : List Event) → IsCore x k es → length (get_or x.cores k []) ≡ length es
core_size x k es core = ap (λ (fs : List Event). length fs) core.events

-- the walk is at place i of core k, where the event number stands, and after it those of the next numbers
pub record IsReached (x : Execution) (k i number : ℕ) : Type 0 where
  pub within : i ≤ length (get_or x.cores k [])
  pub after : (j : ℕ) → IsAfter x.cores k (i + j) (number + j)

-- at a place of a core it is at the event that stands there
pub reached_event : (x : Execution) (k i number : ℕ) (es : List Event) (d : Event) → IsCore x k es → i < length es
    → IsReached x k i number → (number < event_count x) × (event_at x number ≡ get_or es i d)
reached_event x k i number es d core here reached =
    let place : i + 0 ≡ i = omega arith in
    let same : number + 0 ≡ number = omega arith in
    let found = after_found x k i number core.there (omega (arith, core_size x k es core, here))
    (subst (λ (n : ℕ). IsAfter x.cores k i n) same
    (subst (λ (r : ℕ). IsAfter x.cores k r (number + 0)) place (reached.after 0))) in
    (found.0, sym found.2 ∙ (ap (λ (fs : List Event). get_or fs i F) core.events ∙ get_or_default es i F d here))

-- one event further
pub reached_next : (x : Execution) (k i number : ℕ) (es : List Event) → IsCore x k es → i < length es
    → IsReached x k i number → IsReached x k (i + 1) (number + 1)
reached_next x k i number es core here reached = record {
  within = omega (arith, core_size x k es core, here);
  after = λ j.
      let place : i + (1 + j) ≡ i + 1 + j = omega arith in
      let same : number + (1 + j) ≡ number + 1 + j = omega arith in
      subst (λ (n : ℕ). IsAfter x.cores k (i + 1 + j) n) same
      (subst (λ (r : ℕ). IsAfter x.cores k r (number + (1 + j))) place (reached.after (1 + j)));
}

-- after the last event of a core it is at the next core
pub reached_core : (x : Execution) (k i number : ℕ) (es : List Event) → IsCore x k es → length es ≤ i
    → IsReached x k i number → IsReached x (k + 1) 0 number
reached_core x k i number es core past reached =
    let size = core_size x k es core in record {
      within = omega arith;
      after = λ j.
          let rest : i + j - length (get_or x.cores k []) ≡ 0 + j = omega (arith, size, past, reached.within) in
          subst (λ (r : ℕ). IsAfter x.cores (k + 1) r (number + j)) rest
          (after_more x.cores k (i + j) (number + j) core.there (omega (arith, size, past)) (reached.after j));
    }

-- after the last core its number is how many events there are
pub reached_end : (x : Execution) (k number : ℕ) → length x.cores ≤ k → IsReached x k 0 number
    → number ≡ event_count x
reached_end x k number past reached =
    let same : number + 0 ≡ number = omega arith in
    after_end x k number past (subst (λ (n : ℕ). IsAfter x.cores k 0 n) same (reached.after 0))

-- what a slot says that its event writes
abbrev said : PackedSlot → Option (ℕ × ℕ)
said s = written_of (unpacked s)

-- whether its event was met in a write list
abbrev is_met : PackedSlot → Bool
is_met s = is_placed (unpacked s)

-- the slots have what the events before that place write, and none is marked
pub record IsFilled (x : Execution) (k i : ℕ) (slots : List PackedSlot) : Type 0 where
  pub reached : IsReached x k i (length slots)
  pub events : (e : ℕ) → e < length slots → written_of (slot_at slots e) ≡ low (written (event_at x e))
  pub unmarked : (e : ℕ) → e < length slots → is_marked slots e ≡ false

-- one event more
pub filled_next : (x : Execution) (k i : ℕ) (slots : List PackedSlot) (es : List Event) (d : Event) (s : PackedSlot)
    → IsCore x k es → i < length es → written_of (unpacked s) ≡ low (written (get_or es i d))
    → is_placed (unpacked s) ≡ false → IsFilled x k i slots
    → IsFilled x k (i + 1) (slots ++ s ∷ [])
filled_next x k i slots es d s core here writes unmet filled =
    let all : length slots + 1 ≡ length (slots ++ s ∷ []) = omega (arith, length-append slots (s ∷ [])) in record {
      reached = subst (λ (n : ℕ). IsReached x k (i + 1) n) all
          (reached_next x k i (length slots) es core here filled.reached);
      events = λ e below. elim (cases_lt e (length slots)) [
        | inl before ↦ ap said (get_or_append_left slots (s ∷ []) quiet e before) ∙ filled.events e before
        | inr last ↦
            let same : length slots ≡ e = omega (arith, all, below, last) in
            ap said (get_or_at slots s [] quiet e same) ∙ writes
            ∙ ap (λ (v : Event). low (written v)) (subst (λ (n : ℕ). get_or es i d ≡ event_at x n) same
            (sym (reached_event x k i (length slots) es d core here filled.reached).1))
      ];
      unmarked = λ e below. elim (cases_lt e (length slots)) [
        | inl before ↦ ap is_met (get_or_append_left slots (s ∷ []) quiet e before) ∙ filled.unmarked e before
        | inr last ↦
            let same : length slots ≡ e = omega (arith, all, below, last) in
            ap is_met (get_or_at slots s [] quiet e same) ∙ unmet
      ];
    }

-- one core more
pub filled_core : (x : Execution) (k i : ℕ) (slots : List PackedSlot) (es : List Event) → IsCore x k es
    → length es ≤ i → IsFilled x k i slots → IsFilled x (k + 1) 0 slots
filled_core x k i slots es core past filled = record {
  reached = reached_core x k i (length slots) es core past filled.reached;
  events = filled.events;
  unmarked = filled.unmarked;
}

-- with all cores each event has at its number what it writes
pub filled_all : (x : Execution) (k : ℕ) (slots : List PackedSlot) → length x.cores ≤ k
    → IsFilled x k 0 slots → AreNumbered x slots
filled_all x k slots past filled =
    let all : length slots ≡ event_count x = reached_end x k (length slots) past filled.reached in record {
      count = all;
      events = λ e. elim (cases_lt e (length slots)) [
        | inl below ↦ filled.events e below
        | inr above ↦ ap said (get_or_past slots e quiet above)
            ∙ sym (ap (λ (v : Event). low (written v)) (event_past x e (omega (arith, all, above))))
      ];
      unmarked = λ e. elim (cases_lt e (length slots)) [
        | inl below ↦ filled.unmarked e below
        | inr above ↦ ap is_met (get_or_past slots e quiet above)
      ];
    }

-- The events of the cores, which are indexed core by core.
use Rattle.std.proofs.Common.{◌≡◌, ◌<◌, ◌≤◌, ◌+◌, ◌-◌, ℕ, List, [], ◌∷◌, ◌++◌, map, take, length, get_or, arith}
use Rattle.std.proofs.Common.{refl, sym, ap, subst, ◌∙◌, inl, inr}
use Rattle.std.proofs.Common.{Vec, Global}
use Rattle.std.specs.List.{sum, sum_by}
use Rattle.std.proofs.lemmas.Bool.{cases_lt}
use Rattle.std.proofs.lemmas.List.{take_all, take-map, length-map, get_or_push, get_or_append_left, get_or_read}
use Rattle.std.proofs.lemmas.List.Sums.{sum_by_more, sum_by_more_le, sum-map}
use Rattle.recording.specs.declared.event.Event.{Event}
use Rattle.recording.specs.declared.event.Event.TheVariants.{F}
use Rattle.recording.specs.Execution.{Execution, placed_from, event_count, event_at, core_of}
use Rattle.recording.specs.PlacedLaws.{placed_at, placed_total, located}
use Rattle.recording.proofs.Finds.{core_seen}
use Rattle.recording.specs.Tso.{IsWellFormed}
use Rattle.relations.specs.declared.indexed.IndexedEvent.{IndexedEvent}
use Rattle.relations.specs.Indexed.{AreFrom, AreIndexed, AreIndexedBelow, AreStarts, events_below}

-- one core more
pub below_more : (x : Execution) (c : ℕ) (es : List Event) → c < length x.cores → get_or x.cores c [] ≡ es
    → events_below x (c + 1) ≡ events_below x c + length es
below_more x c es at is =
    sum_by_more (λ (fs : List Event). length fs) x.cores c [] at
    ∙ ap (λ (fs : List Event). events_below x c + length fs) is

-- all cores have all events
pub below_all : (x : Execution) (c : ℕ) → length x.cores ≤ c → events_below x c ≡ event_count x
unfolding event_count
below_all x c past =
    ap (λ (cs : List (List Event)). sum_by (λ (es : List Event). length es) cs) (take_all c x.cores past)
    ∙ sym (placed_total 0 x.cores)

-- the event at place i of core c
event_below : (x : Execution) (c i n : ℕ) (es : List Event) → get_or x.cores c [] ≡ es → i < length es
    → n ≡ events_below x c + i → (n < event_count x) × (core_of x n ≡ c) × (event_at x n ≡ get_or es i F)
unfolding event_count core_of event_at
event_below x c i n es is within number =
    let same : sum (take c (map (λ (fs : List Event). length fs) x.cores)) + i ≡ n =
    ap (λ (l : List ℕ). sum l + i) (take-map (λ (fs : List Event). length fs) c x.cores)
    ∙ (ap (λ (k : ℕ). k + i) (sum-map (λ (fs : List Event). length fs) (take c x.cores)) ∙ sym number) in
    let inside : i < length (get_or x.cores c []) = rw is within in
    let at = subst (λ (k : ℕ). (get_or (placed_from 0 x.cores) k (0, F)
    ≡ (0 + c, get_or (get_or x.cores c []) i F)) × (k < length (placed_from 0 x.cores)))
    same (placed_at 0 x.cores c i F inside) in (
      at.1,
      ap (λ p. p.0) at.0 ∙ omega arith,
      ap (λ p. p.1) at.0 ∙ ap (λ (fs : List Event). get_or fs i F) is,
    )

-- the events of all cores are those of x
pub indexed_all : (x : Execution) (c : ℕ) (ps : List IndexedEvent) → IsWellFormed x → length x.cores ≤ c
    → AreIndexedBelow x c ps → AreIndexed x ps
indexed_all x c ps formed past h =
    record { well_formed = formed; size = h.size ∙ below_all x c past; each = h.each }

-- the events of a core are those of its vector
pub core_here : (x : Execution) (vs : List (Vec Event Global)) (c : ℕ) (v : Vec Event Global)
    → map (λ (w : Vec Event Global). w.items) vs ≡ x.cores → c < length x.cores → v ≡ get_or vs c v
    → get_or x.cores c [] ≡ v.items
core_here x vs c v are at is = (core_seen vs x.cores c v (sym are) (omega (
  arith,
  at,
  ap (λ (cs : List (List Event)). length cs) are,
  length-map vs (λ (w : Vec Event Global). w.items),
)) is).1

-- a core that the vectors have
pub core_there : (x : Execution) (vs : List (Vec Event Global)) (c : ℕ) → c < length vs
    → map (λ (w : Vec Event Global). w.items) vs ≡ x.cores → c < length x.cores
core_there x vs c low are =
    omega (arith, low, ap (λ (cs : List (List Event)). length cs) are, length-map vs (λ w. w.items))

-- the event at a place of the vector of core c
pub event_here : (x : Execution) (vs : List (Vec Event Global)) (c : ℕ) (v : Vec Event Global)
    → map (λ (w : Vec Event Global). w.items) vs ≡ x.cores → c < length x.cores → v ≡ get_or vs c v
    → (i n : ℕ) → i < length v.items → n ≡ events_below x c + i
    → (n < event_count x) × (core_of x n ≡ c) × (event_at x n ≡ get_or v.items i F)
event_here x vs c v are at is i n within number =
    event_below x c i n v.items (core_here x vs c v are at is) within number

-- what is on core c stands from its first number on
from_first : (x : Execution) (c s : ℕ) → s < event_count x → core_of x s ≡ c → events_below x c ≤ s
unfolding event_count
from_first x c s within core =
    let at = located 0 x.cores s within in
    let number : s ≡ events_below x at.0 + at.1 =
    sym at.4
    ∙ (ap (λ (l : List ℕ). sum l + at.1) (take-map (λ (fs : List Event). length fs) at.0 x.cores)
    ∙ ap (λ (k : ℕ). k + at.1) (sum-map (λ (fs : List Event). length fs) (take at.0 x.cores))) in
    let here = event_below x at.0 at.1 s (get_or x.cores at.0 []) refl at.3 number in
    omega (arith, number, ap (events_below x) (sym here.1 ∙ core))

-- the events of a core, numbered from its first one on
pub core_from : (x : Execution) (vs : List (Vec Event Global)) (c : ℕ) (v : Vec Event Global)
    → map (λ (w : Vec Event Global). w.items) vs ≡ x.cores → c < length x.cores → v ≡ get_or vs c v
    → AreFrom x (events_below x c) v.items
unfolding event_count
core_from x vs c v are at is = record {
  within = omega (
    arith,
    sum_by_more_le (λ (es : List Event). length es) x.cores c [] at,
    ap (λ (es : List Event). length es) (core_here x vs c v are at is),
    placed_total 0 x.cores,
  );
  event = λ i low. (event_here x vs c v are at is i (events_below x c + i) low refl).2;
  first = λ i low s.
      let here = event_here x vs c v are at is i (events_below x c + i) low refl in (
        λ own. (from_first x c s (omega (arith, own.0, own.1)) (own.2 ∙ here.1), own.0),
        λ from.
            let number : s ≡ events_below x c + (s - events_below x c) = omega (arith, from.0) in
            let there = event_here x vs c v are at is (s - events_below x c) s (omega (arith, from.0, from.1, low)) number in
            (from.1, here.0, there.1 ∙ sym here.1),
      );
}

-- the events of a core as they are seen, numbered from its first one on, and the number after them
pub events_from : (x : Execution) (vs : List (Vec Event Global)) (c start : ℕ) (v : Vec Event Global) (es : List Event)
    → map (λ (w : Vec Event Global). w.items) vs ≡ x.cores → c < length x.cores → v ≡ get_or vs c v → es ≡ v.items
    → start ≡ events_below x c → AreFrom x start es × (events_below x (c + 1) ≡ start + length es)
events_from x vs c start v es are at is seen first = (
  subst (λ (fs : List Event). AreFrom x start fs) (sym seen)
      (subst (λ (n : ℕ). AreFrom x n v.items) (sym first) (core_from x vs c v are at is)),
  omega (
    arith,
    below_more x c v.items at (core_here x vs c v are at is),
    first,
    ap (λ (fs : List Event). length fs) seen,
  ),
)

-- the start of one core more
pub starts_more : (x : Execution) (c start : ℕ) (starts : List ℕ) → length starts ≡ c + 1
    → ((k : ℕ) → k ≤ c → get_or starts k 0 ≡ events_below x k) → start ≡ events_below x (c + 1) → (k : ℕ) → k ≤ c + 1
    → get_or (starts ++ start ∷ []) k 0 ≡ events_below x k
starts_more x c start starts size rest last k low = elim (cases_lt k (length starts)) [
  | inl before ↦ get_or_append_left starts (start ∷ []) 0 k before ∙ rest k (omega (arith, before, size))
  | inr here ↦
      let one : length starts ≡ k = omega (arith, here, low, size) in
      let at : c + 1 ≡ k = omega (arith, one, size) in
      get_or_push starts start 0 k one ∙ (last ∙ ap (λ (n : ℕ). events_below x n) at)
]

-- the last of the starts is the number of events
pub starts_last : (x : Execution) (starts : List ℕ) → AreStarts x starts
    → get_or starts (length starts - 1) 0 ≡ event_count x
starts_last x starts h =
    let at : length starts - 1 ≡ length x.cores = omega (arith, h.size) in
    ap (λ (k : ℕ). get_or starts k 0) at
    ∙ (h.each (length x.cores) (omega arith) ∙ below_all x (length x.cores) (omega arith))

-- the event with a number from the start s of core c on and below that of the next, where the starts are seen so
pub start_here : (x : Execution) (starts seen : List ℕ) (vs : List (Vec Event Global)) (c n s : ℕ)
    → (v : Vec Event Global) → AreStarts x starts → seen ≡ starts
    → map (λ (w : Vec Event Global). w.items) vs ≡ x.cores → v ≡ get_or vs c v → c + 1 < length seen
    → get_or seen c 0 ≤ n → n < get_or seen (c + 1) 0 → s ≡ get_or starts c s
    → (n - s < length v.items) × (core_of x n ≡ c) × (event_at x n ≡ get_or v.items (n - s) F)
start_here x starts seen vs c n s v h same are is within first next start =
    let size : length seen ≡ length starts = ap (λ (l : List ℕ). length l) same in
    let there : c < length x.cores = omega (arith, within, size, h.size) in
    let this : get_or seen c 0 ≡ events_below x c =
    ap (λ (l : List ℕ). get_or l c 0) same ∙ h.each c (omega (arith, there)) in
    let after : get_or seen (c + 1) 0 ≡ events_below x (c + 1) =
    ap (λ (l : List ℕ). get_or l (c + 1) 0) same ∙ h.each (c + 1) (omega (arith, there)) in
    let from : s ≡ events_below x c =
    get_or_read starts c s (omega (arith, within, size)) start 0 ∙ h.each c (omega (arith, there)) in
    let more : events_below x (c + 1) ≡ events_below x c + length v.items =
    below_more x c v.items there (core_here x vs c v are there is) in
    let low : n - s < length v.items = omega (arith, this, after, from, more, first, next) in
    let at = event_here x vs c v are there is (n - s) n low (omega (arith, this, from, first)) in
    (low, at.1, at.2)

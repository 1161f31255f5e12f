-- The walk over the cores that counts events, and finds one by its number.
use Rattle.std.proofs.Common.{◌≡◌, ◌<◌, ◌≤◌, ◌+◌, ℕ, List, [], map, take, length, get_or, arith, sym, ap, ◌∙◌}
use Rattle.std.proofs.Common.{Vec, Global, subst}
use Rattle.std.specs.List.{sum, sum_by}
use Rattle.std.proofs.lemmas.List.{length-map, get_or-map, take_all, take-map}
use Rattle.std.proofs.lemmas.List.Sums.{sum_by_more, sum_by_more_le, sum-map}
use Rattle.recording.specs.declared.event.Event.{Event}
use Rattle.recording.specs.declared.event.Event.TheVariants.{F}
use Rattle.recording.specs.Execution.{Execution, placed_from, event_count, event_at}
use Rattle.recording.specs.EventLaws.{event_past}
use Rattle.recording.specs.PlacedLaws.{placed_at, placed_total}

-- how many events the first i cores have
abbrev pub count_before : List (List Event) → ℕ → ℕ
count_before cores i = sum_by (λ es. length es) (take i cores)

-- the list of a core among vectors
pub core_seen : (vs : List (Vec Event Global)) (cores : List (List Event)) (i : ℕ) (v : Vec Event Global)
    → cores ≡ map (λ v. v.items) vs → i < length vs → v ≡ get_or vs i v
    → (i < length cores) × (get_or cores i [] ≡ v.items)
core_seen vs cores i v is at read = rw is (
  omega (arith, length-map vs (λ (w : Vec Event Global). w.items), at),
  get_or-map (λ (w : Vec Event Global). w.items) vs i v [] at ∙ ap (λ (w : Vec Event Global). w.items) (sym read),
)

-- one core more
pub count_more : (cores : List (List Event)) (i n : ℕ) (es : List Event) → i < length cores
    → get_or cores i [] ≡ es → n ≡ length es → count_before cores (i + 1) ≡ count_before cores i + n
count_more cores i n es at is count =
    sum_by_more (λ es. length es) cores i [] at ∙ omega (arith, ap (λ (l : List Event). length l) is, count)

-- all cores have all events
pub count_all : (x : Execution) (i : ℕ) → length x.cores ≤ i → count_before x.cores i ≡ event_count x
unfolding event_count
count_all x i past =
    ap (λ (cs : List (List Event)). sum_by (λ es. length es) cs) (take_all i x.cores past)
    ∙ sym (placed_total 0 x.cores)

-- the first cores have no more
pub count_le : (x : Execution) (i n : ℕ) (es : List Event) → i < length x.cores
    → get_or x.cores i [] ≡ es → n ≡ length es → count_before x.cores i + n ≤ event_count x
unfolding event_count
count_le x i n es at is count = omega (
  arith,
  sum_by_more_le (λ es. length es) x.cores i [] at,
  ap (λ (l : List Event). length l) is,
  count,
  placed_total 0 x.cores,
)

-- a number that falls on a core is the event there
pub event_found : (x : Execution) (i rest number : ℕ) → rest < length (get_or x.cores i [])
    → count_before x.cores i + rest ≡ number → get_or (get_or x.cores i []) rest F ≡ event_at x number
unfolding event_at
event_found x i rest number within is =
    let same : sum (take i (map (λ es. length es) x.cores)) + rest ≡ number =
    ap (λ (l : List ℕ). sum l + rest) (take-map (λ es. length es) i x.cores)
    ∙ (ap (λ (n : ℕ). n + rest) (sum-map (λ es. length es) (take i x.cores)) ∙ is) in
    sym (ap (λ p. p.1) (subst (λ (n : ℕ). get_or (placed_from 0 x.cores) n (0, F)
    ≡ (0 + i, get_or (get_or x.cores i []) rest F)) same (placed_at 0 x.cores i rest F within).0))

-- a number after all cores names no event
pub event_none : (x : Execution) (i rest number : ℕ) → length x.cores ≤ i
    → count_before x.cores i + rest ≡ number → F ≡ event_at x number
event_none x i rest number past is = sym (event_past x number (omega (arith, is, count_all x i past)))

-- Lists of all events, and the pairs that stand in order in them.
use Rattle.std.proofs.Common.{◌≡◌, ◌<◌, ◌≤◌, inl, inr, ℕ, List, [], get_or, length, arith, ap, sym, subst}
use Rattle.std.proofs.lemmas.Bool.{cases_eq, cases_lt}
use Rattle.std.proofs.lemmas.List.{get_or_past}
use Rattle.recording.specs.Order.{place, Before, Enumerates}
use Rattle.recording.specs.Execution.{Execution, event_count, write_list, Kept}
use Rattle.recording.specs.OrderLaws.{place_in, place_one}
use Rattle.recording.specs.PlaceLaws.{at_place, times_at, place_at}

-- the list holds each event once and nothing else
abbrev pub IsTotal : Execution → List ℕ → Type 0
IsTotal x m = Enumerates (λ e. e < event_count x) m

-- what stands at a place has that place
pub own_place : (x : Execution) (m : List ℕ) → IsTotal x m → (i : ℕ) → i < length m
    → place m (get_or m i 0) ≡ i
own_place x m total i h = place_at m i h (omega (
  arith,
  total.once (get_or m i 0) (total.nothing_else (get_or m i 0) (times_at m i h)),
))

-- each event has a place
pub in_place : (x : Execution) (m : List ℕ) → IsTotal x m → (e : ℕ) → e < event_count x → place m e < length m
in_place x m total e h = place_in m e (omega (arith, total.once e h))

-- past the last address no event stands in a write list
pub past_lists : (x : Execution) (a e f : ℕ) → length x.write_lists ≤ a → ¬ Before (write_list x a) e f
unfolding write_list
past_lists x a e f h b = omega (arith, b, ap (λ (ws : List ℕ). length ws) (get_or_past x.write_lists a [] h))

-- no kept pair stands the wrong way round, so each stands the right way round
pub kept_stand : (x : Execution) (m : List ℕ) → IsTotal x m
    → ((at i : ℕ) → at < length m → at < i → i < length m → ¬ Kept x (get_or m i 0) (get_or m at 0))
    → (e f : ℕ) → Kept x e f → Before m e f
kept_stand x m total none e f k =
    let le : place m e < length m = in_place x m total e (let h : (e < f) × (f < event_count x)
    × _ = k.0 in omega arith) in
    let lf : place m f < length m = in_place x m total f k.0.1 in
    elim (cases_lt (place m e) (place m f)) [
      | inl before ↦ (before, lf)
      | inr after ↦ elim (cases_eq (place m e) (place m f)) [
        | inl one ↦ absurd (let lt : e < f = k.0.0 in omega (arith, place_one m e f one le))
        | inr other ↦ absurd (none (place m f) (place m e) lf (omega arith) le
            (subst (λ (v : ℕ). Kept x v (get_or m (place m f) 0)) (sym (at_place m e le))
            (subst (λ (v : ℕ). Kept x e v) (sym (at_place m f lf)) k)))
      ]
    ]

-- where the kept pairs stand in order, no event is kept before one that stands earlier
pub kept_fail : (x : Execution) (m : List ℕ) → IsTotal x m → ((e f : ℕ) → Kept x e f → Before m e f)
    → (at i : ℕ) → at < i → i < length m → ¬ Kept x (get_or m i 0) (get_or m at 0)
kept_fail x m total stand at i lt h k =
    let b : Before m (get_or m i 0) (get_or m at 0) = stand (get_or m i 0) (get_or m at 0) k in
    omega (arith, b, own_place x m total i h, own_place x m total at (omega arith))

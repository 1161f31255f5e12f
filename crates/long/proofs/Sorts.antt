-- Sorting by pairs.
use Rattle.std.proofs.Common.{◌≡◌, ◌≢◌, ◌<◌, ◌≤◌, ◌+◌, ◌-◌, inl, inr, ℕ, List, [], ◌∷◌, ◌++◌, get_or, set, length}
use Rattle.std.proofs.Common.{arith}
use Rattle.std.proofs.Common.{subst, ◌∙◌, length-set, get_or-set_same, get_or-set_other}
use Rattle.recording.specs.EnumerationLaws.{missing}
use Rattle.recording.specs.Execution.{Execution, event_count}
use Rattle.recording.specs.Order.{Before, times}
use Rattle.recording.specs.OrderLaws.{cases_times, times_in}
use Rattle.recording.specs.Recording.{IsRecording}
use Rattle.recording.specs.Tso.{IsWellFormed}
use Rattle.relations.specs.Cycle.{IsCycle}
use Rattle.relations.specs.CycleLaws.{cycle_of}
use Rattle.relations.specs.Consistency.{HasNoOverlook}
use Rattle.relations.specs.Forced.{Forced}
use Rattle.relations.specs.ForcedLaws.{forced_within}
use Rattle.relations.specs.Respects.{IsLeastOrder}
use Rattle.order.specs.Open.{IsOpen}
use Rattle.order.proofs.Greedy.{IsBefore, IsGreedy, IsWithin, free_is_fresh, greedy_all, greedy_more, waits_for}
use Rattle.order.proofs.Waits.{IsReleased, all_placed, open_more, waits_less}
use Rattle.long.specs.Chains.{Chains, times_kept}
use Rattle.long.specs.declared.sorting.Unsorted.{Unsorted}
use Rattle.long.specs.Sorted.{IsLeft}
use Rattle.long.specs.Steps.{IsStep}
use Rattle.long.specs.Walks.{IsBlocked, IsOpenEvent}
use Rattle.long.proofs.Follow.{all_follow}

-- pairs that are forced are pairs of events
pub pairs_within : (x : Execution) → IsWellFormed x → (p : Chains) → ((d e : ℕ) → 0 < times_kept p d e → Forced x d e)
    → IsWithin (times_kept p) (event_count x)
pairs_within x wf p forced d e some = let f = forced d e some in forced_within x wf f.0 d e f.1

module _ (p : Chains) (n : ℕ) (order counts : List ℕ) (g : IsGreedy (times_kept p) n order)
    (o : IsOpen (times_kept p) n order counts) (v : ℕ) (low : v < n) (free : get_or counts v 0 ≡ 1) where
  -- the event that is taken is not placed
  fresh : times order v ≡ 0
  fresh = free_is_fresh (times_kept p) n order counts o v low free

  -- what it is before is not placed
  unplaced : (f : ℕ) → 0 < times_kept p v f → times order f ≡ 0
  unplaced f some = elim (cases_times order f) [
    | inl none ↦ none
    | inr placed ↦
        let before : Before order v f = g.ordered v f some placed in
        absurd (omega (arith, fresh, times_in order v (omega (arith, before.0, before.1))))
  ]

  -- it is not before itself
  not_itself : (f : ℕ) → 0 < times_kept p v f → f ≢ v
  not_itself f some same = omega (
    arith,
    fresh,
    all_placed (times_kept p) order n v (omega (arith, o.waiting v low fresh, free)) v low
        (subst (λ (k : ℕ). 0 < times_kept p v k) same some),
  )

  -- so what it is before has as many open before it
  pub place_room : IsWithin (times_kept p) n → (f : ℕ) → 0 < times_kept p v f
      → times_kept p v f + 1 ≤ get_or (set counts v 0) f 0
  place_room inside f some = omega (
    arith,
    get_or-set_other counts v f 0 0 (not_itself f some),
    o.waiting f (inside v f some).1 (unplaced f some),
    waits_less (times_kept p) order v n f fresh low,
  )

  -- and one event more is placed
  pub placed_more : (new : List ℕ) → IsWithin (times_kept p) n → length order < n
      → ((e : ℕ) → e < length counts → get_or counts e 0 ≡ 1 → v ≤ e) → length new ≡ length (set counts v 0)
      → ((f : ℕ) → get_or new f 0 ≡ get_or (set counts v 0) f 0 - times_kept p v f)
      → IsGreedy (times_kept p) n (order ++ v ∷ []) × IsOpen (times_kept p) n (order ++ v ∷ []) new
  placed_more new inside long least size fewer =
      let released : IsReleased (times_kept p) v counts new = record {
        size = size ∙ length-set counts v 0;
        own = omega (arith, fewer v, get_or-set_same counts v 0 0 (omega (arith, low, o.size)));
        others = λ f within apart. omega (arith, fewer f, get_or-set_other counts v f 0 0 apart);
      } in (
        greedy_more (times_kept p) n order counts o v inside g long low free least,
        open_more (times_kept p) n order v counts new low fresh o released,
      )

-- where no event is free each open one waits for one
none_free : (p : Chains) (n : ℕ) (order counts : List ℕ) → IsOpen (times_kept p) n order counts
    → ((e : ℕ) → e < length counts → get_or counts e 0 ≢ 1) → IsBlocked p counts
none_free p n order counts o none e open' =
    let unplaced : times order e ≡ 0 = elim (cases_times order e) [
      | inl fresh ↦ fresh
      | inr placed ↦ absurd (omega (arith, open'.1, o.done e (omega (arith, open'.0, o.size)) placed))
    ] in
    let before = waits_for (times_kept p) n order counts o none e (omega (arith, open'.0, o.size), unplaced) in (
      before.0,
      (omega (arith, before.1.0, o.size), omega (arith, o.waiting before.0 before.1.0 before.1.1)),
      before.2,
    )

-- and where not all are placed one is open
one_left : (p : Chains) (n : ℕ) (order counts : List ℕ) → IsGreedy (times_kept p) n order
    → IsOpen (times_kept p) n order counts → length order < n → (e : ℕ) × IsOpenEvent counts e
one_left p n order counts g o long =
    let left : (e : ℕ) × (e < n) × (times order e ≡ 0) = missing n order g.within long in
    (left.0, (omega (arith, left.1, o.size), omega (arith, o.waiting left.0 left.1 left.2)))

-- the events that are left
pub events_left : (x : Execution) → IsRecording x → (p : Chains) (order counts : List ℕ)
    → ((d e : ℕ) → 0 < times_kept p d e → Forced x d e) → IsGreedy (times_kept p) (event_count x) order
    → IsOpen (times_kept p) (event_count x) order counts
    → ((e : ℕ) → e < length counts → get_or counts e 0 ≢ 1) → length order < event_count x
    → IsLeft x (record { pairs = p; waiting = counts })
events_left x is p order counts forced g o none long = record {
  few = omega (arith, is.within.few_events, o.size);
  within = λ d f some. omega (arith, (pairs_within x is.well_formed p forced d f some).1, o.size);
  blocked = none_free p (event_count x) order counts o none;
  some = one_left p (event_count x) order counts g o long;
  forced = forced;
}

-- have a cycle
pub left_cycle : (x : Execution) (l : Unsorted) → IsLeft x l → (c : List ℕ) × IsCycle (Forced x) c
left_cycle x l is =
    let found = cycle_of (Forced x) (IsOpenEvent l.waiting) (length l.waiting) (λ e u. u.0)
    (λ e u. let before = is.blocked e u in (before.0, before.1, is.forced before.0 e before.2)) is.some.0 is.some.1 in
    (found.0, found.1)

-- the first order by pairs that are forced, from which all forced pairs follow, is the first of all
pub first_order : (x : Execution) → IsWellFormed x → HasNoOverlook x → (p : Chains) (m : List ℕ)
    → ((d e : ℕ) → 0 < times_kept p d e → Forced x d e) → ((d e : ℕ) → IsStep x d e → 0 < times_kept p d e)
    → IsGreedy (times_kept p) (event_count x) m → length m ≡ event_count x → IsLeastOrder (Forced x) (event_count x) m
first_order x wf none p m forced enough g all =
    let found : IsLeastOrder (IsBefore (times_kept p)) (event_count x) m =
    greedy_all (times_kept p) (event_count x) m (pairs_within x wf p forced) g all in
    record {
      respects = all_follow x wf none m (record {
        total = found.respects.total;
        related = λ d e s. found.respects.related d e (enough d e s);
      });
      least = λ other r. found.least other (record {
        total = r.total;
        related = λ d e some. r.related d e (forced d e some);
      });
    }

-- The greedy order: each time the least event that has nothing open before it.
use Rattle.std.proofs.Common.{◌≡◌, ◌≢◌, ◌<◌, ◌≤◌, inl, inr, ℕ, List, [], ◌∷◌, ◌++◌, get_or, length, arith}
use Rattle.std.proofs.Common.{refl, sym, ap, ◌∙◌, subst}
use Rattle.std.proofs.lemmas.Bool.{cases_eq, cases_lt}
use Rattle.recording.specs.Order.{place, times, Before}
use Rattle.recording.specs.OrderLaws.{times_here, times_nil, times_append, place_here, place_append_right}
use Rattle.recording.specs.OrderLaws.{cases_times, before_in_left, left_before_right}
use Rattle.relations.specs.Cycle.{ComesFirst, IsCycle}
use Rattle.relations.specs.Respects.{Respects, IsLeastOrder}
use Rattle.relations.specs.CycleLaws.{first_more}
use Rattle.recording.specs.EnumerationLaws.{length_total, missing, all_listed}
use Rattle.relations.specs.CycleLaws.{cycle_of}
use Rattle.order.specs.Open.{waits, IsOpen}
use Rattle.order.proofs.Waits.{waits_none, all_placed, open_before, times_other, times_own}

-- what is before another, by how often
abbrev pub IsBefore : (ℕ → ℕ → ℕ) → ℕ → ℕ → Type 0
IsBefore w e f = 0 < w e f

-- it is so of numbers below n alone
abbrev pub IsWithin : (ℕ → ℕ → ℕ) → ℕ → Type 0
IsWithin w n = (e f : ℕ) → 0 < w e f → (e < n) × (f < n)

module _ (w : ℕ → ℕ → ℕ) (n : ℕ) where
  -- an order as far as it goes: closed under what comes before, and no order comes before it
  pub record IsGreedy (p : List ℕ) : Type 0 where
    pub once : (e : ℕ) → times p e ≤ 1
    pub within : (e : ℕ) → 0 < times p e → e < n
    pub ordered : (e f : ℕ) → 0 < w e f → 0 < times p f → Before p e f
    pub first : (m : List ℕ) → Respects (IsBefore w) n m → ComesFirst p m

  -- no event is placed at the start
  pub greedy_none : IsGreedy []
  greedy_none = record {
    once = λ e. omega (arith, times_nil e);
    within = λ e h. absurd (omega (arith, times_nil e));
    ordered = λ e f r h. absurd (omega (arith, times_nil f));
    first = λ m r. tt;
  }

  module _ (p counts : List ℕ) (o : IsOpen w n p counts) where
    -- an event that alone is counted is not placed
    pub free_is_fresh : (v : ℕ) → v < n → get_or counts v 0 ≡ 1 → times p v ≡ 0
    free_is_fresh v less free = elim (cases_times p v) [
      | inl none ↦ none
      | inr some ↦ absurd (omega (arith, o.done v less some, free))
    ]

    -- and nothing is open before it
    free_waits : (v : ℕ) → v < n → get_or counts v 0 ≡ 1 → waits w p n v ≡ 0
    free_waits v less free = omega (arith, o.waiting v less (free_is_fresh v less free), free)

    -- where an order goes on after p with y, nothing is open before y
    goes_on_free : (y : ℕ) (ys : List ℕ) → Respects (IsBefore w) n (p ++ y ∷ ys) → (y < n) × (get_or counts y 0 ≡ 1)
    goes_on_free y ys r = (less, omega (arith, o.waiting y less fresh, waits_none w p n y placed))
      where
        there : 0 < times (p ++ y ∷ ys) y
        there = omega (arith, times_append p (y ∷ ys) y, times_here ys y y refl)

        less : y < n
        less = r.total.nothing_else y there

        fresh : times p y ≡ 0
        fresh = omega (arith, r.total.once y less, times_append p (y ∷ ys) y, times_here ys y y refl)

        at : place (p ++ y ∷ ys) y ≡ length p
        at = omega (arith, place_append_right p (y ∷ ys) y fresh, place_here ys y y refl)

        placed : (d : ℕ) → d < n → 0 < w d y → 0 < times p d
        placed d h related = elim (cases_times p d) [
          | inl none ↦ absurd (let b : Before (p ++ y ∷ ys) d y = r.related d y related in omega
              (arith, b, at, place_append_right p (y ∷ ys) d none))
          | inr some ↦ some
        ]

    -- the least free event goes on
    pub greedy_more : (v : ℕ) → IsWithin w n → IsGreedy p → length p < n → v < n → get_or counts v 0 ≡ 1
        → ((e : ℕ) → e < length counts → get_or counts e 0 ≡ 1 → v ≤ e) → IsGreedy (p ++ v ∷ [])
    greedy_more v inside g long less free least = record {
      once = λ e. elim (cases_eq e v) [
        | inl one ↦ omega (arith, fresh, times_own p v, ap (times (p ++ v ∷ [])) one)
        | inr other ↦ omega (arith, g.once e, times_other p v e other)
      ];
      within = λ e h. elim (cases_eq e v) [
        | inl one ↦ omega (arith, less, one)
        | inr other ↦ g.within e (omega (arith, h, times_other p v e other))
      ];
      ordered = λ e f r h. elim (cases_eq f v) [
        | inl one ↦ left_before_right p (v ∷ []) e f
            (all_placed w p n v (free_waits v less free) e (inside e f r).0
            (subst (λ (k : ℕ). 0 < w e k) one r))
            (ap (times p) one ∙ fresh)
            (omega (arith, times_here [] v f (sym one)))
        | inr other ↦ before_in_left p (v ∷ []) e f (g.ordered e f r (omega (arith, h, times_other p v f other)))
      ];
      first = λ m r. first_more p v m (g.first m r) (omega (arith, length_total n m r.total, long)) (λ y ys is.
          let on : (y < n) × (get_or counts y 0 ≡ 1) =
          goes_on_free y ys (subst (λ (k : List ℕ). Respects (IsBefore w) n k) is r) in
          least y (omega (arith, on.0, o.size)) on.1);
    }
      where
        fresh : times p v ≡ 0
        fresh = free_is_fresh v less free

    -- where nothing is free, something is open before each event that is left
    pub waits_for : ((e : ℕ) → e < length counts → get_or counts e 0 ≢ 1) → (e : ℕ) → (e < n) × (times p e ≡ 0)
        → (d : ℕ) × ((d < n) × (times p d ≡ 0)) × (0 < w d e)
    waits_for none e left = elim (cases_lt 0 (waits w p n e)) [
      | inr zero_waits ↦ absurd (none e (omega (arith, left.0, o.size))
          (omega (arith, o.waiting e left.0 left.1, zero_waits)))
      | inl some ↦ let d : (d : ℕ) × (d < n) × (times p d ≡ 0) × (0 < w d e) = open_before w p n e some in
          (d.0, (d.1, d.2), d.3)
    ]

    -- so there is a cycle, where an event is left
    pub greedy_cycle : IsGreedy p → length p < n → ((e : ℕ) → e < length counts → get_or counts e 0 ≢ 1)
        → (c : List ℕ) × IsCycle (IsBefore w) c
    greedy_cycle g long none =
        let left : (e : ℕ) × (e < n) × (times p e ≡ 0) = missing n p g.within long in
        let found = cycle_of (IsBefore w) (λ e. (e < n) × (times p e ≡ 0)) n
        (λ e u. u.0) (waits_for none) left.0 (left.1, left.2) in
        (found.0, found.1)

  -- with all events it is the least order
  pub greedy_all : (p : List ℕ) → IsWithin w n → IsGreedy p → length p ≡ n → IsLeastOrder (IsBefore w) n p
  greedy_all p inside g size = record {
    respects = record {
      total = all_listed n p g.once g.within size;
      related = λ e f r. g.ordered e f r (omega (
        arith,
        (all_listed n p g.once g.within size).once f (inside e f r).1,
      ));
    };
    least = g.first;
  }

-- an order of a relation is one of another that holds of the same pairs
respects_alike : (R S : ℕ → ℕ → Type 0) (n : ℕ) (m : List ℕ) → ((e f : ℕ) → S e f → R e f) → Respects R n m
    → Respects S n m
respects_alike R S n m to r = record { total = r.total; related = λ e f s. r.related e f (to e f s) }

-- and so is the least
pub least_alike : (R S : ℕ → ℕ → Type 0) (n : ℕ) (m : List ℕ) → ((e f : ℕ) → R e f → S e f)
    → ((e f : ℕ) → S e f → R e f) → IsLeastOrder R n m → IsLeastOrder S n m
least_alike R S n m to from l = record {
  respects = respects_alike R S n m from l.respects;
  least = λ other r. l.least other (respects_alike S R n other to r);
}

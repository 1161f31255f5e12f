-- The keys of events.
use Rattle.std.proofs.Common.{◌≡◌, ◌≢◌, ◌<◌, ◌≤◌, ◌+◌, ◌^◌, ◌==◌, inl, inr, ℕ, cond, List, [], ◌∷◌, get_or, set}
use Rattle.std.proofs.Common.{length, arith, refl, sym, ap, subst, ◌∙◌, length-set, get_or-set_same, get_or-set_other}
use Rattle.std.specs.Prelude.{IsPermutation}
use Rattle.std.specs.BinaryHeap.{IsUpperBound}
use Rattle.std.specs.List.{sum_by}
use Rattle.std.specs.Ordering.{nat_cmp}
use Rattle.std.proofs.lemmas.Bool.{cases_eq, cases_lt, eq-eqb, ne_eqb}
use Rattle.std.proofs.lemmas.List.{get_or_past}
use Rattle.std.proofs.lemmas.List.Sorted.{sum_by-IsPermutation, le_from_greatest}
use Rattle.std.proofs.lemmas.List.Sums.{sum_by-cons}
use Rattle.recording.specs.Order.{place, times}
use Rattle.recording.specs.OrderLaws.{place_in, times_here, times_there, times_nil}
use Rattle.recording.specs.PlaceLaws.{at_place}
use Rattle.order.specs.Open.{one_if}
use Rattle.long.specs.Ready.{key_of, IsReady}

-- 1 for this number, 0 for others
is_one : ℕ → ℕ → ℕ
is_one e x = cond (x == e) 1 0

-- how often a number stands is a sum
times_sum : (xs : List ℕ) (e : ℕ) → times xs e ≡ sum_by (is_one e) xs
unfolding times is_one
times_sum [] e = refl
times_sum (x ∷ xs) e = ap (λ (k : ℕ). cond (x == e) 1 0 + k) (times_sum xs e) ∙ sym (sum_by-cons (is_one e) x xs)

-- so each stands as often in another order
pub times_permuted : (xs ys : List ℕ) (e : ℕ) → IsPermutation xs ys → times ys e ≡ times xs e
times_permuted xs ys e moved = times_sum ys e ∙ sum_by-IsPermutation (is_one e) xs ys moved ∙ sym (times_sum xs e)

-- no number is above one that none is greater than
pub at_most_greatest : (xs : List ℕ) (most k : ℕ) → IsUpperBound nat_cmp most xs → 0 < times xs k → k ≤ most
at_most_greatest xs most k greatest some =
    let at : place xs k < length xs = place_in xs k some in
    let low : get_or xs (place xs k) 0 ≤ most = le_from_greatest most xs greatest (place xs k) 0 at in
    omega (arith, low, at_place xs k at)

-- a count is 1, or it is not
pub one_there : (n : ℕ) → n ≡ 1 → one_if (n == 1) ≡ 1
one_there n is = ap one_if (eq-eqb n 1 is)

pub one_gone : (n : ℕ) → n ≢ 1 → one_if (n == 1) ≡ 0
one_gone n other = ap one_if (ne_eqb n 1 other)

-- different events have different keys
pub keys_differ : (d e : ℕ) → d < 2 ^ 32 → e < 2 ^ 32 → d ≢ e → key_of d ≢ key_of e
keys_differ d e low high apart same = apart (omega (arith, low, high, same))

-- an event whose key stands has the count 1
pub key_stands : (counts keys : List ℕ) → IsReady counts keys → (e : ℕ) → e < 2 ^ 32 → 0 < times keys (key_of e)
    → get_or counts e 0 ≡ 1
key_stands counts keys ready e low some = elim (cases_eq (get_or counts e 0) 1) [
  | inl one ↦ one
  | inr other ↦ absurd (omega (arith, some, ready.each e low, one_gone (get_or counts e 0) other))
]

-- what has a count is an event
pub counted_event : (counts : List ℕ) (e : ℕ) → 0 < get_or counts e 0 → e < length counts
counted_event counts e some = elim (cases_lt e (length counts)) [
  | inl low ↦ low
  | inr past ↦ absurd (omega (arith, some, get_or_past counts e 0 past))
]

-- the greatest key is that of the first event whose count is 1
pub first_ready : (counts keys : List ℕ) → IsReady counts keys → (key : ℕ) → key < 2 ^ 32
    → ((k : ℕ) → 0 < times keys k → k ≤ key) → 0 < times keys key
    → (key_of key < length counts) × (get_or counts (key_of key) 0 ≡ 1)
    × ((e : ℕ) → e < length counts → get_or counts e 0 ≡ 1 → key_of key ≤ e)
first_ready counts keys ready key low greatest some =
    let back : key_of (key_of key) ≡ key = omega (arith, low) in
    let one : get_or counts (key_of key) 0 ≡ 1 = key_stands counts keys ready (key_of key) (omega (arith, low))
    (subst (λ (k : ℕ). 0 < times keys k) (sym back) some) in (
      counted_event counts (key_of key) (omega (arith, one)),
      one,
      λ e within is.
          let stands : times keys (key_of e) ≡ 1 =
          ready.each e (omega (arith, within, ready.few)) ∙ one_there (get_or counts e 0) is in
          omega (arith, greatest (key_of e) (omega (arith, stands)), within, ready.few, low),
    )

-- without a key no event has the count 1
pub none_ready : (counts keys : List ℕ) → IsReady counts keys → keys ≡ [] → (e : ℕ) → e < length counts
    → get_or counts e 0 ≢ 1
none_ready counts keys ready none e within is =
    let stands : times keys (key_of e) ≡ 1 =
    ready.each e (omega (arith, within, ready.few)) ∙ one_there (get_or counts e 0) is in
    omega (arith, stands, ap (λ (ks : List ℕ). times ks (key_of e)) none, times_nil (key_of e))

-- what is taken is ready no longer
pub ready_taken : (counts keys rest : List ℕ) → IsReady counts keys → (key : ℕ) → key < 2 ^ 32
    → ((k : ℕ) → times keys k ≡ times (key ∷ rest) k) → 0 < times keys key
    → IsReady (set counts (key_of key) 0) rest
ready_taken counts keys rest ready key low moved some = record {
  few = omega (arith, ready.few, length-set counts (key_of key) 0);
  each = λ e small. elim (cases_eq e (key_of key)) [
    | inl here ↦
        let own : key_of e ≡ key = omega (arith, here, low) in
        let stood : times keys (key_of e) ≡ 1 = ready.each e small ∙ one_there (get_or counts e 0)
        (key_stands counts keys ready e small (subst (λ (k : ℕ). 0 < times keys k) (sym own) some)) in
        let left : times rest (key_of e) ≡ 0 = omega (
          arith,
          stood,
          moved (key_of e),
          times_here rest key (key_of e) (sym own),
        ) in
        let at : e < length counts = counted_event counts e (omega (
          arith,
          key_stands counts keys ready e small (subst (λ (k : ℕ). 0 < times keys k) (sym own) some),
        )) in
        left ∙ sym (one_gone (get_or (set counts (key_of key) 0) e 0) (λ one. omega (
          arith,
          one,
          ap (λ (k : ℕ). get_or (set counts (key_of key) 0) k 0) here,
          get_or-set_same counts (key_of key) 0 0 (subst (λ (k : ℕ). k < length counts) here at),
        )))
    | inr apart ↦
        let other : key ≢ key_of e = λ same. apart (omega (arith, same, small)) in
        let same : get_or (set counts (key_of key) 0) e 0 ≡ get_or counts e 0 =
        get_or-set_other counts (key_of key) e 0 0 apart in
        omega (
          arith,
          ready.each e small,
          moved (key_of e),
          times_there rest key (key_of e) other,
        ) ∙ ap (λ (k : ℕ). one_if (k == 1)) (sym same)
  ];
}

-- one count fewer, above 1
pub ready_lower : (counts keys : List ℕ) → IsReady counts keys → (v left : ℕ) → v < length counts
    → get_or counts v 0 ≢ 1 → left ≢ 1 → IsReady (set counts v left) keys
ready_lower counts keys ready v left low was now = record {
  few = omega (arith, ready.few, length-set counts v left);
  each = λ e small. elim (cases_eq e v) [
    | inl here ↦
        ready.each e small
        ∙ one_gone (get_or counts e 0) (subst (λ (k : ℕ). get_or counts k 0 ≢ 1) (sym here) was)
        ∙ sym (one_gone (get_or (set counts v left) e 0)
        (λ one. now (omega (
          arith,
          one,
          ap (λ (k : ℕ). get_or (set counts v left) k 0) here,
          get_or-set_same counts v left 0 low,
        ))))
    | inr apart ↦ ready.each e small
        ∙ ap (λ (k : ℕ). one_if (k == 1)) (sym (get_or-set_other counts v e left 0 apart))
  ];
}

-- and down to 1
pub ready_more : (counts keys more : List ℕ) → IsReady counts keys → (v : ℕ) → v < length counts
    → get_or counts v 0 ≢ 1 → ((k : ℕ) → times more k ≡ times (key_of v ∷ keys) k) → IsReady (set counts v 1) more
ready_more counts keys more ready v low was moved = record {
  few = omega (arith, ready.few, length-set counts v 1);
  each = λ e small. elim (cases_eq e v) [
    | inl here ↦ omega (
      arith,
      moved (key_of e),
      times_here keys (key_of v) (key_of e) (ap key_of (sym here)),
      ready.each e small,
      one_gone (get_or counts e 0) (subst (λ (k : ℕ). get_or counts k 0 ≢ 1) (sym here) was),
      one_there (get_or (set counts v 1) e 0)
          (ap (λ (k : ℕ). get_or (set counts v 1) k 0) here ∙ get_or-set_same counts v 1 0 low),
    )
    | inr apart ↦ omega (
      arith,
      moved (key_of e),
      times_there keys (key_of v) (key_of e)
          (keys_differ v e (omega (arith, low, ready.few)) small (λ same. apart (sym same))),
      ready.each e small,
      ap (λ (k : ℕ). one_if (k == 1)) (get_or-set_other counts v e 1 0 apart),
    )
  ];
}

-- the keys of the events below n whose count is 1
pub record AreReadyBelow (n : ℕ) (counts keys : List ℕ) : Type 0 where
  pub each : (e : ℕ) → e < n → times keys (key_of e) ≡ one_if (get_or counts e 0 == 1)
  pub others : (e : ℕ) → n ≤ e → e < 2 ^ 32 → times keys (key_of e) ≡ 0

-- none at first
pub below_none : (counts keys : List ℕ) → keys ≡ [] → AreReadyBelow 0 counts keys
below_none counts keys none = record {
  each = λ e low. absurd (omega (arith, low));
  others = λ e past small. ap (λ (ks : List ℕ). times ks (key_of e)) none ∙ times_nil (key_of e);
}

-- one event more, whose count is not 1
pub below_still : (n : ℕ) (counts keys : List ℕ) → n < 2 ^ 32 → AreReadyBelow n counts keys → get_or counts n 0 ≢ 1
    → AreReadyBelow (n + 1) counts keys
below_still n counts keys small are other = record {
  each = λ e low. elim (cases_eq e n) [
    | inl here ↦ are.others e (omega (arith, here)) (omega (arith, here, small))
        ∙ sym (one_gone (get_or counts e 0) (subst (λ (k : ℕ). get_or counts k 0 ≢ 1) (sym here) other))
    | inr apart ↦ are.each e (omega (arith, low, apart))
  ];
  others = λ e past high. are.others e (omega (arith, past)) high;
}

-- and one whose count is 1
pub below_more : (n : ℕ) (counts keys more : List ℕ) → n < 2 ^ 32 → AreReadyBelow n counts keys → get_or counts n 0 ≡ 1
    → ((k : ℕ) → times more k ≡ times (key_of n ∷ keys) k) → AreReadyBelow (n + 1) counts more
below_more n counts keys more small are one moved = record {
  each = λ e low. elim (cases_eq e n) [
    | inl here ↦ omega (
      arith,
      moved (key_of e),
      times_here keys (key_of n) (key_of e) (ap key_of (sym here)),
      are.others e (omega (arith, here)) (omega (arith, here, small)),
      one_there (get_or counts e 0) (ap (λ (k : ℕ). get_or counts k 0) here ∙ one),
    )
    | inr apart ↦ omega (
      arith,
      moved (key_of e),
      times_there keys (key_of n) (key_of e)
          (keys_differ n e small (omega (arith, low, small)) (λ same. apart (sym same))),
      are.each e (omega (arith, low, apart)),
    )
  ];
  others = λ e past high. omega (
    arith,
    moved (key_of e),
    times_there keys (key_of n) (key_of e) (keys_differ n e small high (λ same. omega (arith, same, past))),
    are.others e (omega (arith, past)) high,
  );
}

-- with all events they are ready
pub below_all : (n : ℕ) (counts keys : List ℕ) → n ≡ length counts → length counts < 2 ^ 32
    → AreReadyBelow n counts keys → IsReady counts keys
below_all n counts keys all few are = record {
  few = few;
  each = λ e small. elim (cases_lt e n) [
    | inl low ↦ are.each e low
    | inr past ↦ are.others e past small
        ∙ sym (one_gone (get_or counts e 0) (λ one. omega (
          arith,
          one,
          get_or_past counts e 0 (omega (arith, past, all)),
        )))
  ];
}

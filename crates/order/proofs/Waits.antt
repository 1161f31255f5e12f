-- Counts of unplaced events as the order grows.
use Rattle.std.proofs.Common.{◌≡◌, ◌≢◌, ◌<◌, ◌≤◌, ◌+◌, ◌-◌, ◌⊎◌, inl, inr, ℕ, zero, suc, Bool, cond}
use Rattle.std.proofs.Common.{replicate, List, [], ◌∷◌, ◌++◌, get_or, length, arith, refl, sym, ap}
use Rattle.std.proofs.Common.{◌∙◌, subst}
use Rattle.std.proofs.lemmas.Bool.{cases_eq, cases_lt, eq-eqb, ne_eqb}
use Rattle.std.proofs.lemmas.List.{length-replicate, get_or-replicate}
use Rattle.std.specs.Prelude.{◌==◌}
use Rattle.recording.specs.Order.{times}
use Rattle.recording.specs.OrderLaws.{times_here, times_there, times_nil, times_append, cases_times}
use Rattle.order.specs.Open.{waits, IsOpen}

-- where v is placed, any other event stands as often
pub times_other : (p : List ℕ) (v e : ℕ) → e ≢ v → times (p ++ v ∷ []) e ≡ times p e
times_other p v e other = omega (
  arith,
  times_append p (v ∷ []) e,
  times_there [] v e (λ s. other (sym s)),
  times_nil e,
)

-- and once more for itself
pub times_own : (p : List ℕ) (v : ℕ) → times (p ++ v ∷ []) v ≡ times p v + 1
times_own p v = omega (arith, times_append p (v ∷ []) v, times_here [] v v refl, times_nil v)

module _ (w : ℕ → ℕ → ℕ) where
  -- how often an event is before e, where it is not placed; else 0
  opens : List ℕ → ℕ → ℕ → ℕ
  opens p d e = cond (times p d == 0) (w d e) 0

  -- one event more
  waits_step : (p : List ℕ) (d e : ℕ) → waits w p (suc d) e ≡ waits w p d e + opens p d e
  unfolding waits opens
  waits_step p d e = refl

  -- no event is below 0
  pub waits_zero : (p : List ℕ) (e : ℕ) → waits w p 0 e ≡ 0
  unfolding waits
  waits_zero p e = refl

  -- it is either
  cases_opens : (p : List ℕ) (d e : ℕ) → ((times p d ≡ 0) × (opens p d e ≡ w d e))
      ⊎ ((0 < times p d) × (opens p d e ≡ 0))
  unfolding opens
  cases_opens p d e = elim (cases_times p d) [
    | inl fresh ↦ inl (fresh, ap (λ (b : Bool). cond b (w d e) 0) (eq-eqb (times p d) 0 fresh))
    | inr placed ↦ inr (
      placed,
      ap (λ (b : Bool). cond b (w d e) 0) (ne_eqb (times p d) 0 (λ none. omega (arith, placed, none))),
    )
  ]

  -- where all that is before e is placed, nothing is unplaced before it
  pub waits_none : (p : List ℕ) (n e : ℕ) → ((d : ℕ) → d < n → 0 < w d e → 0 < times p d) → waits w p n e ≡ 0
  waits_none p zero e all = waits_zero p e
  waits_none p (suc n) e all =
      let rest : waits w p n e ≡ 0 = waits_none p n e (λ d h. all d (omega (arith, h))) in
      elim (cases_opens p n e) [
        | inr none ↦ omega (arith, waits_step p n e, none.1, rest)
        | inl open' ↦ elim (cases_lt 0 (w n e)) [
          | inl some ↦ absurd (omega (arith, open'.0, all n (omega arith) some))
          | inr none ↦ omega (arith, waits_step p n e, open'.1, none, rest)
        ]
      ]

  -- where something is open before e, here it is
  pub open_before : (p : List ℕ) (n e : ℕ) → 0 < waits w p n e
      → (d : ℕ) × (d < n) × (times p d ≡ 0) × (0 < w d e)
  open_before p zero e h = absurd (omega (arith, h, waits_zero p e))
  open_before p (suc n) e h = elim (cases_lt 0 (opens p n e)) [
    | inl some ↦ elim (cases_opens p n e) [
      | inl open' ↦ (n, omega arith, open'.0, omega (arith, some, open'.1))
      | inr none ↦ absurd (omega (arith, some, none.1))
    ]
    | inr none ↦
        let below = open_before p n e (omega (arith, h, waits_step p n e, none)) in
        (below.0, omega (arith, below.1), below.2, below.3)
  ]

  -- where nothing is unplaced before it, all that is before e is placed
  pub all_placed : (p : List ℕ) (n e : ℕ) → waits w p n e ≡ 0 → (d : ℕ) → d < n → 0 < w d e → 0 < times p d
  all_placed p zero e h d less r = absurd (omega (arith, less))
  all_placed p (suc n) e h d less r = elim (cases_eq d n) [
    | inl here ↦ elim (cases_opens p n e) [
      | inl open' ↦ absurd (omega (
        arith,
        h,
        waits_step p n e,
        open'.1,
        subst (λ (k : ℕ). 0 < w k e) here r,
      ))
      | inr placed ↦ subst (λ (k : ℕ). 0 < times p k) (sym here) placed.0
    ]
    | inr other ↦ all_placed p n e (omega (arith, h, waits_step p n e)) d (omega (arith, less, other)) r
  ]

  -- where v is placed, another is open as before
  opens_other : (p : List ℕ) (v d e : ℕ) → d ≢ v → opens (p ++ v ∷ []) d e ≡ opens p d e
  unfolding opens
  opens_other p v d e other = ap (λ (k : ℕ). cond (k == 0) (w d e) 0) (times_other p v d other)

  -- and v no longer
  opens_own : (p : List ℕ) (v e : ℕ) → opens (p ++ v ∷ []) v e ≡ 0
  opens_own p v e = elim (cases_opens (p ++ v ∷ []) v e) [
    | inl open' ↦ absurd (omega (arith, open'.0, times_own p v))
    | inr none ↦ none.1
  ]

  -- at or below v the counts stay
  waits_same : (p : List ℕ) (v n e : ℕ) → n ≤ v → waits w (p ++ v ∷ []) n e ≡ waits w p n e
  waits_same p v zero e low = waits_zero (p ++ v ∷ []) e ∙ sym (waits_zero p e)
  waits_same p v (suc n) e low = omega (
    arith,
    waits_step (p ++ v ∷ []) n e,
    waits_step p n e,
    waits_same p v n e (omega (arith, low)),
    opens_other p v n e (λ here. omega (arith, low, here)),
  )

  -- past v, which was unplaced, they are fewer by as often as it is before e
  pub waits_less : (p : List ℕ) (v n e : ℕ) → times p v ≡ 0 → v < n
      → waits w (p ++ v ∷ []) n e + w v e ≡ waits w p n e
  waits_less p v zero e none less = absurd (omega (arith, less))
  waits_less p v (suc n) e none less = elim (cases_eq v n) [
    | inr other ↦ omega (
      arith,
      waits_step (p ++ v ∷ []) n e,
      waits_step p n e,
      waits_less p v n e none (omega (arith, less, other)),
      opens_other p v n e (λ is. other (sym is)),
    )
    | inl here ↦ elim (cases_opens p v e) [
      | inr placed ↦ absurd (omega (arith, none, placed.0))
      | inl open' ↦ omega (
        arith,
        waits_step (p ++ v ∷ []) n e,
        waits_step p n e,
        waits_same p v n e (omega (arith, here)),
        ap (λ (k : ℕ). opens (p ++ v ∷ []) k e) here,
        ap (λ (k : ℕ). opens p k e) here,
        opens_own p v e,
        open'.1,
      )
    ]
  ]

  -- what a release leaves
  pub record IsReleased (v : ℕ) (old new : List ℕ) : Type 0 where
    pub size : length new ≡ length old
    pub own : get_or new v 0 ≡ 0
    pub others : (f : ℕ) → f < length old → f ≢ v → get_or new f 0 ≡ get_or old f 0 - w v f

  -- one event more is placed
  pub open_more : (n : ℕ) (p : List ℕ) (v : ℕ) (old new : List ℕ) → v < n → times p v ≡ 0
      → IsOpen w n p old → IsReleased v old new → IsOpen w n (p ++ v ∷ []) new
  open_more n p v old new less none unplaced released = record {
    size = released.size ∙ unplaced.size;
    waiting = λ e h fresh. elim (cases_eq e v) [
      | inl here ↦ absurd (omega (arith, fresh, times_own p v, ap (times (p ++ v ∷ [])) here))
      | inr other ↦ omega (
        arith,
        released.others e (omega (arith, h, unplaced.size)) other,
        unplaced.waiting e h (sym (times_other p v e other) ∙ fresh),
        waits_less p v n e none less,
      )
    ];
    done = λ e h placed. elim (cases_eq e v) [
      | inl here ↦ ap (λ (k : ℕ). get_or new k 0) here ∙ released.own
      | inr other ↦ omega (
        arith,
        released.others e (omega (arith, h, unplaced.size)) other,
        unplaced.done e h (omega (arith, placed, times_other p v e other)),
      )
    ];
  }

  -- the counts by the first d events, before any event is placed
  pub record AreCounts (n d : ℕ) (counts : List ℕ) : Type 0 where
    pub size : length counts ≡ n
    pub counted : (f : ℕ) → f < n → get_or counts f 0 ≡ waits w [] d f + 1

  -- nothing is counted at the start
  pub counts_none : (n : ℕ) → AreCounts n 0 (replicate n 1)
  counts_none n = record {
    size = length-replicate n 1;
    counted = λ f h. omega (arith, get_or-replicate {A = ℕ} n f 1 0 h, waits_zero [] f);
  }

  -- before any event is placed, each is open
  opens_first : (d e : ℕ) → opens [] d e ≡ w d e
  unfolding opens
  opens_first d e = ap (λ (k : ℕ). cond (k == 0) (w d e) 0) (times_nil d)

  -- one event more is counted
  pub counts_more : (n d : ℕ) (old new : List ℕ) → AreCounts n d old → length new ≡ length old
      → ((f : ℕ) → f < length old → get_or new f 0 ≡ get_or old f 0 + w d f)
      → AreCounts n (d + 1) new
  counts_more n d old new were size more = record {
    size = size ∙ were.size;
    counted = λ f h. omega (
      arith,
      were.counted f h,
      more f (omega (arith, h, were.size)),
      ap (λ (k : ℕ). waits w [] k f) one,
      waits_step [] d f,
      opens_first d f,
    );
  }
    where
      one : d + 1 ≡ suc d
      one = omega arith

  -- where each is before each once at most, no more wait than there are
  waits_most : (p : List ℕ) (n e : ℕ) → ((d : ℕ) → w d e ≤ 1) → waits w p n e ≤ n
  waits_most p zero e few = omega (arith, waits_zero p e)
  waits_most p (suc n) e few = elim (cases_opens p n e) [
    | inl open' ↦ omega (arith, waits_most p n e few, waits_step p n e, open'.1, few n)
    | inr none ↦ omega (arith, waits_most p n e few, waits_step p n e, none.1)
  ]

  -- so no count is larger than the events are many, and one
  pub counts_most : (n d : ℕ) (counts : List ℕ) → AreCounts n d counts → (f : ℕ) → f < n → ((c : ℕ) → w c f ≤ 1)
      → get_or counts f 0 ≤ d + 1
  counts_most n d counts all f h few = omega (arith, all.counted f h, waits_most [] d f few)

  -- with all events they are a count for each event, before any is placed
  pub counts_all : (n : ℕ) (counts : List ℕ) → AreCounts n n counts → IsOpen w n [] counts
  counts_all n counts all = record {
    size = all.size;
    waiting = λ e h _. all.counted e h;
    done = λ e h placed. absurd (omega (arith, placed, times_nil e));
  }

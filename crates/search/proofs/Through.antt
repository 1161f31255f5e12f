-- Cycles through an event.
use Rattle.std.proofs.Common.{◌≡◌, ◌<◌, ◌≤◌, ◌+◌, inl, inr, ℕ, zero, suc, List, [], ◌∷◌, ◌++◌, length}
use Rattle.std.proofs.Common.{get_or, arith, refl, ap, subst, ◌∙◌, length-append, Contains, Option, None}
use Rattle.std.proofs.Common.{Some, IfSome, MatchOption}
use Rattle.std.proofs.lemmas.Bool.{cases_eq}
use Rattle.std.proofs.lemmas.List.{get_or_append_left}
use Rattle.recording.specs.Order.{times}
use Rattle.recording.specs.OrderLaws.{times_here, times_there, times_nil, cases_times}
use Rattle.relations.specs.Relation.{Table, Related}
use Rattle.relations.specs.Cycle.{Leads, IsCycle, Walk, IsCappedDistance, IsExactRow}
use Rattle.relations.specs.CycleLaws.{cycle_of_walk}
use Rattle.recording.specs.EnumerationLaws.{distinct_below}
use Rattle.search.specs.Cycles.{IsNearest}
use Rattle.best.specs.Rule.{IsLength}
use Rattle.search.specs.Bound.{Covers, CoversClosing}
use Rattle.search.proofs.Walks.{walk_of, last_step}

-- one event more at the end
leads_snoc : (R : ℕ → ℕ → Type 0) (e : ℕ) (es : List ℕ) (back next : ℕ) → Leads R e es back → R back next
    → Leads R e (es ++ back ∷ []) next
leads_snoc R e [] back next h r = (h, r)
leads_snoc R e (f ∷ fs) back next h r = (h.0, leads_snoc R f fs back next h.1 r)

-- a cycle from one of its events on
turned : (R : ℕ → ℕ → Type 0) (i : ℕ) (c : List ℕ) (v : ℕ) → IsCycle R c → i < length c → get_or c i v ≡ v
    → (es : List ℕ) × IsCycle R (v ∷ es) × (length (v ∷ es) ≡ length c)
turned R i [] v cycle at is = elim cycle [ ]
turned R zero (e ∷ es) v cycle at is = (es, subst (λ (x : ℕ). Leads R x es x) is cycle, refl)
turned R (suc i) (e ∷ []) v cycle at is = absurd (omega (arith, at))
turned R (suc i) (e ∷ f ∷ fs) v cycle at is =
    let rest : (es : List ℕ) × IsCycle R (v ∷ es) × (length (v ∷ es) ≡ length (f ∷ (fs ++ e ∷ []))) =
    turned R i (f ∷ (fs ++ e ∷ [])) v (leads_snoc R f fs e f cycle.1 cycle.0)
    (omega (arith, at, length-append fs (e ∷ [])))
    (get_or_append_left (f ∷ fs) (e ∷ []) v i (omega (arith, at)) ∙ is) in
    (rest.0, rest.1, omega (arith, rest.2, length-append fs (e ∷ [])))

-- the part of a path from e on
from_there : (R : ℕ → ℕ → Type 0) (e f : ℕ) (fs : List ℕ) (back : ℕ) → Leads R f fs back
    → 0 < times (f ∷ fs) e → ((x : ℕ) → times (f ∷ fs) x ≤ 1)
    → (gs : List ℕ) × Leads R e gs back × ((x : ℕ) → times (e ∷ gs) x ≤ 1)
from_there R e f [] back h there once = elim (cases_eq f e) [
  | inl is ↦ ([], subst (λ (z : ℕ). R z back) is h, subst (λ (z : ℕ). (x : ℕ) → times (z ∷ []) x ≤ 1) is once)
  | inr other ↦ absurd (omega (arith, there, times_there [] f e other, times_nil e))
]
from_there R e f (g ∷ gs) back h there once = elim (cases_eq f e) [
  | inl is ↦ (
    g ∷ gs,
    subst (λ (z : ℕ). Leads R z (g ∷ gs) back) is h,
    subst (λ (z : ℕ). (x : ℕ) → times (z ∷ (g ∷ gs)) x ≤ 1) is once,
  )
  | inr other ↦ from_there R e g gs back h.1 (omega (arith, there, times_there (g ∷ gs) f e other))
      (λ x. elim (cases_eq f x) [
        | inl same ↦ omega (arith, once x, times_here (g ∷ gs) f x same)
        | inr apart ↦ omega (arith, once x, times_there (g ∷ gs) f x apart)
      ])
]

-- a path on which no event comes twice
simple : (R : ℕ → ℕ → Type 0) (e : ℕ) (es : List ℕ) (back : ℕ) → Leads R e es back
    → (ds : List ℕ) × Leads R e ds back × ((x : ℕ) → times (e ∷ ds) x ≤ 1)
simple R e [] back h = (
  [],
  h,
  λ x. elim (cases_eq e x) [
    | inl same ↦ omega (arith, times_here [] e x same, times_nil x)
    | inr other ↦ omega (arith, times_there [] e x other, times_nil x)
  ],
)
simple R e (f ∷ fs) back h =
    let s : (ds : List ℕ) × Leads R f ds back × ((x : ℕ) → times (f ∷ ds) x ≤ 1) = simple R f fs back h.1 in
    elim (cases_times (f ∷ s.0) e) [
      | inl fresh ↦ (
        f ∷ s.0,
        (h.0, s.1),
        λ x. elim (cases_eq e x) [
          | inl same ↦ omega (arith, times_here (f ∷ s.0) e x same, fresh, ap (times (f ∷ s.0)) same)
          | inr other ↦ omega (arith, times_there (f ∷ s.0) e x other, s.2 x)
        ],
      )
      | inr again ↦ from_there R e f s.0 back s.1 again s.2
    ]

-- its events are numbers below n
leads_within : (R : ℕ → ℕ → Type 0) (n : ℕ) → ((e f : ℕ) → R e f → (e < n) × (f < n))
    → (e : ℕ) (es : List ℕ) (back : ℕ) → Leads R e es back → (x : ℕ) → 0 < times (e ∷ es) x → x < n
leads_within R n within e [] back h x there = elim (cases_eq e x) [
  | inl same ↦ omega (arith, (within e back h).0, same)
  | inr other ↦ absurd (omega (arith, there, times_there [] e x other, times_nil x))
]
leads_within R n within e (f ∷ fs) back h x there = elim (cases_eq e x) [
  | inl same ↦ omega (arith, (within e f h.0).0, same)
  | inr other ↦ leads_within R n within f fs back h.1 x (omega (arith, there, times_there (f ∷ fs) e x other))
]

-- where there is a cycle through v there is one of n events at most
short_through : (R : ℕ → ℕ → Type 0) (n : ℕ) → ((e f : ℕ) → R e f → (e < n) × (f < n)) → (v : ℕ) (es : List ℕ)
    → IsCycle R (v ∷ es) → (ds : List ℕ) × IsCycle R (v ∷ ds) × (length (v ∷ ds) ≤ n)
short_through R n within v es cycle =
    let s : (ds : List ℕ) × Leads R v ds v × ((x : ℕ) → times (v ∷ ds) x ≤ 1) = simple R v es v cycle in
    (s.0, s.1, distinct_below n (v ∷ s.0) s.2 (leads_within R n within v s.0 v s.1))

module _ (R : ℕ → ℕ → Type 0) (n k v closing : ℕ) (row : List ℕ) (within : (e f : ℕ) → R e f
    → (e < n) × (f < n)) (exact : IsExactRow R n k v row) (near : IsNearest R v row k closing) where
  -- no cycle from v on is shorter than the row says
  closing_least : (es : List ℕ) → IsCycle R (v ∷ es) → closing + 1 ≤ length (v ∷ es)
  closing_least es cycle =
      let last : (l : ℕ) × Walk R (length es) v l × R l v = last_step R v es v cycle in
      omega (
        arith,
        near.nearest last.0 last.2,
        (exact.labels last.0 (within last.0 v last.2).0).least (length es) last.1,
      )

  -- the cycle that the row shows
  shown_cycle : closing < k → (c : List ℕ) × IsCycle R c × (length c ≡ closing + 1)
  shown_cycle less = elim near.reached [
    | inl same ↦ absurd (omega (arith, same, less))
    | inr at ↦
        let d : IsCappedDistance R k v at.0 (get_or row at.0 0) = exact.labels at.0 (within at.0 v at.1).0 in
        cycle_of_walk R closing v at.0
        (walk_of R (get_or row at.0 0) closing v at.0 at.2 (d.walk (omega (arith, at.2, less)))) at.1
  ]

  -- what covers the cycle that the row closes covers each
  pub covers_each : (lengths : List ℕ) → CoversClosing lengths n closing → Covers R lengths v
  covers_each lengths why c cycle on =
      let t : (es : List ℕ) × IsCycle R (v ∷ es) × (length (v ∷ es) ≡ length c) =
      turned R on.0 c v cycle on.1 on.2 in
      elim why [
        | inl full ↦
            let s : (ds : List ℕ) × IsCycle R (v ∷ ds) × (length (v ∷ ds) ≤ n) =
            short_through R n within v t.0 t.1 in
            absurd (omega (arith, full, s.2, closing_least s.0 s.1))
        | inr known ↦ (known.0, known.1, omega (arith, known.2, closing_least t.0 t.1, t.2))
      ]

-- a row shows the length of a cycle
pub shown_length : (t : Table) (k v closing : ℕ) (row : List ℕ)
    → ((e f : ℕ) → Related t e f → (e < length t) × (f < length t))
    → IsExactRow (Related t) (length t) k v row → IsNearest (Related t) v row k closing → k ≤ length t
    → closing < k → IsLength t (closing + 1)
shown_length t k v closing row within exact near few less =
    let c : (c : List ℕ) × IsCycle (Related t) c × (length c ≡ closing + 1) =
    shown_cycle (Related t) (length t) k v closing row within exact near less in
    (c.0, c.1, c.2, omega (arith, less, few))

-- where the row shows nothing shorter than the cap, the cap is enough
pub cap_covers : (n closing : ℕ) (cap : Option ℕ) (lengths : List ℕ) → IfSome cap (λ k. Contains lengths k)
    → MatchOption cap (n ≤ closing) (λ k. k ≤ closing + 1) → CoversClosing lengths n closing
cap_covers n closing None lengths known longer = inl longer
cap_covers n closing (Some k) lengths known longer = inr (k, known, longer)

-- How each kind of step counts events: it moves one, and all others stay where they are.
use Rattle.std.proofs.Common.{◌≡◌, ◌≢◌, ◌<◌, ◌≤◌, ◌+◌, inl, inr, ℕ, true, None, List, [], ◌∷◌, ◌++◌, arith}
use Rattle.std.proofs.Common.{refl, sym, ap, subst, ◌∙◌}
use Rattle.std.proofs.lemmas.Bool.{cases_eq}
use Rattle.recording.specs.Order.{times}
use Rattle.recording.specs.OrderLaws.{times_here, times_there, times_nil, times_append}
use Rattle.machine.proofs.Seen.{Static, Snapshot, seen, IsCounted, not_seen}

-- an event alone stands once
pub single : (b : ℕ) → times (b ∷ []) b ≡ 1
single b = omega (arith, times_here [] b b refl, times_nil b)

-- and no other does
pub single_other : (b e : ℕ) → e ≢ b → times (b ∷ []) e ≡ 0
single_other b e other = omega (arith, times_there [] b e (λ z. other (sym z)), times_nil e)

-- the step from s to t moves the event b
pub record Counts (p : Static) (s t : Snapshot) (b : ℕ) : Type 0 where
  pub others : (d e : ℕ) → e ≢ b → times (seen t d) e ≡ times (seen s d) e
  pub next : (e : ℕ) → e ≢ b → e < t.next (p.core e) → e < s.next (p.core e)
  pub next_grows : (c : ℕ) → s.next c ≤ t.next c
  pub waiting : (c e : ℕ) → 0 < times (t.buffer c) e → (p.core e ≡ c) × (p.store e ≡ true)
  pub b_event : (b < p.count) × (b < t.next (p.core b))
  pub b_once : times (seen t (p.core b)) b ≡ 1

-- such a step keeps the count
pub counted_kept : {p : Static} {s t : Snapshot} {b : ℕ} → IsCounted p s → Counts p s t b → IsCounted p t
counted_kept {p} {s} {t} {b} counted step = record { listed = listed; executed = executed; waiting = step.waiting }
  where
    listed : (e : ℕ) → e < p.count → e < t.next (p.core e) → times (seen t (p.core e)) e ≡ 1
    listed e event done = elim (cases_eq e b) [
      | inl same ↦ subst (λ (z : ℕ). times (seen t (p.core z)) z ≡ 1) (sym same) step.b_once
      | inr other ↦ omega (
        arith,
        step.others (p.core e) e other,
        counted.listed e event (step.next e other done),
      )
    ]

    executed : (c e : ℕ) → 0 < times (seen t c) e → (e < p.count) × (e < t.next (p.core e))
    executed c e there = elim (cases_eq e b) [
      | inl same ↦ subst (λ (z : ℕ). (z < p.count) × (z < t.next (p.core z))) (sym same) step.b_event
      | inr other ↦
          let was : (e < p.count) × (e < s.next (p.core e)) =
          counted.executed c e (omega (arith, step.others c e other, there)) in
          (was.0, omega (arith, was.1, step.next_grows (p.core e)))
    ]

-- a core's next event is executed
pub record Executes (p : Static) (s t : Snapshot) (b : ℕ) : Type 0 where
  pub event : b < p.count
  pub next_was : s.next (p.core b) ≡ b
  pub next : t.next (p.core b) ≡ b + 1
  pub next_others : (d : ℕ) → d ≢ p.core b → t.next d ≡ s.next d
  pub source : (e : ℕ) → e ≢ b → t.source e ≡ s.source e

module _ {p : Static} {s t : Snapshot} {b : ℕ} (i : Executes p s t b) where
  -- no other event is executed with it
  next_step : (e : ℕ) → e ≢ b → e < t.next (p.core e) → e < s.next (p.core e)
  next_step e eb done = elim (cases_eq (p.core e) (p.core b)) [
    | inl one ↦
        let below : e < t.next (p.core b) = subst (λ (c : ℕ). e < t.next c) one done in
        subst (λ (c : ℕ). e < s.next c) (sym one) (omega (arith, below, i.next_was, i.next, eb))
    | inr other ↦ omega (arith, i.next_others (p.core e) other, done)
  ]

  -- no core goes back
  next_up : (c : ℕ) → s.next c ≤ t.next c
  next_up c = elim (cases_eq c (p.core b)) [
    | inl one ↦ subst (λ (z : ℕ). s.next z ≤ t.next z) (sym one) (omega (arith, i.next_was, i.next))
    | inr other ↦ omega (arith, i.next_others c other)
  ]

-- a plain store goes to the back of its core's buffer
pub record Issues (p : Static) (s t : Snapshot) (b : ℕ) : Type 0 where
  pub executes : Executes p s t b
  pub store : p.store b ≡ true
  pub reads : p.reads b ≡ None
  pub performed : t.performed ≡ s.performed
  pub buffer : t.buffer (p.core b) ≡ s.buffer (p.core b) ++ b ∷ []
  pub others : (d : ℕ) → d ≢ p.core b → t.buffer d ≡ s.buffer d

-- a store that goes to its buffer is counted
pub issue_counts : {p : Static} {s t : Snapshot} {b : ℕ} → IsCounted p s → Issues p s t b → Counts p s t b
issue_counts {p} {s} {t} {b} counted i = record {
  others = λ d e eb. elim (cases_eq d (p.core b)) [
    | inl own ↦ subst (λ (z : ℕ). times (seen t z) e ≡ times (seen s z) e) (sym own) (omega (
      arith,
      times_append t.performed (t.buffer (p.core b)) e,
      times_append s.performed (s.buffer (p.core b)) e,
      ap (λ (m : List ℕ). times m e) i.performed,
      ap (λ (q : List ℕ). times q e) i.buffer,
      times_append (s.buffer (p.core b)) (b ∷ []) e,
      single_other b e eb,
    ))
    | inr other ↦ omega (
      arith,
      times_append t.performed (t.buffer d) e,
      times_append s.performed (s.buffer d) e,
      ap (λ (m : List ℕ). times m e) i.performed,
      ap (λ (q : List ℕ). times q e) (i.others d other),
    )
  ];
  next = next_step i.executes;
  next_grows = next_up i.executes;
  waiting = waiting;
  b_event = (i.executes.event, omega (arith, i.executes.next));
  b_once = omega (
    arith,
    not_seen p s counted b (p.core b) (omega (arith, i.executes.next_was)),
    times_append t.performed (t.buffer (p.core b)) b,
    times_append s.performed (s.buffer (p.core b)) b,
    ap (λ (m : List ℕ). times m b) i.performed,
    ap (λ (q : List ℕ). times q b) i.buffer,
    times_append (s.buffer (p.core b)) (b ∷ []) b,
    single b,
  );
}
  where
    waiting : (d e : ℕ) → 0 < times (t.buffer d) e → (p.core e ≡ d) × (p.store e ≡ true)
    waiting d e there = elim (cases_eq e b) [
      | inl is_b ↦ elim (cases_eq d (p.core b)) [
        | inl own ↦ (ap p.core is_b ∙ sym own, ap p.store is_b ∙ i.store)
        | inr other ↦ counted.waiting d e (omega
            (arith, there, ap (λ (q : List ℕ). times q e) (i.others d other)))
      ]
      | inr old ↦ elim (cases_eq d (p.core b)) [
        | inl own ↦
            let at_own : 0 < times (t.buffer (p.core b)) e =
            subst (λ (z : ℕ). 0 < times (t.buffer z) e) own there in
            let was : (p.core e ≡ p.core b) × (p.store e ≡ true) = counted.waiting (p.core b) e
            (omega (
              arith,
              at_own,
              ap (λ (q : List ℕ). times q e) i.buffer,
              times_append (s.buffer (p.core b)) (b ∷ []) e,
              single_other b e old,
            )) in
            (was.0 ∙ sym own, was.1)
        | inr other ↦ counted.waiting d e (omega
            (arith, there, ap (λ (q : List ℕ). times q e) (i.others d other)))
      ]
    ]

-- an event is performed as it is executed
pub record Performs (p : Static) (s t : Snapshot) (b : ℕ) : Type 0 where
  pub executes : Executes p s t b
  pub performed : t.performed ≡ s.performed ++ b ∷ []
  pub buffer : (d : ℕ) → t.buffer d ≡ s.buffer d

-- an event that is performed is counted
pub perform_counts : {p : Static} {s t : Snapshot} {b : ℕ} → IsCounted p s → Performs p s t b → Counts p s t b
perform_counts {p} {s} {t} {b} counted i = record {
  others = λ d e eb. omega (arith, seen_more d e, single_other b e eb);
  next = next_step i.executes;
  next_grows = next_up i.executes;
  waiting = λ d e there. counted.waiting d e
      (omega (arith, there, ap (λ (q : List ℕ). times q e) (i.buffer d)));
  b_event = (i.executes.event, omega (arith, i.executes.next));
  b_once = omega (
    arith,
    seen_more (p.core b) b,
    not_seen p s counted b (p.core b) (omega (arith, i.executes.next_was)),
    single b,
  );
}
  where
    seen_more : (d e : ℕ) → times (seen t d) e ≡ times (seen s d) e + times (b ∷ []) e
    seen_more d e = omega (
      arith,
      times_append t.performed (t.buffer d) e,
      times_append s.performed (s.buffer d) e,
      ap (λ (m : List ℕ). times m e) i.performed,
      ap (λ (q : List ℕ). times q e) (i.buffer d),
      times_append s.performed (b ∷ []) e,
    )

-- a waiting store of core c goes to memory; front waits before it
pub record Drains (p : Static) (s t : Snapshot) (c b : ℕ) (front : List ℕ) : Type 0 where
  pub back : List ℕ
  pub performed : t.performed ≡ s.performed ++ b ∷ []
  pub was : s.buffer c ≡ front ++ b ∷ back
  pub is : t.buffer c ≡ front ++ back
  pub others : (d : ℕ) → d ≢ c → t.buffer d ≡ s.buffer d
  pub next : (d : ℕ) → t.next d ≡ s.next d
  pub source : (e : ℕ) → t.source e ≡ s.source e
  pub reads : p.reads b ≡ None

module _ {p : Static} {s t : Snapshot} {c b : ℕ} {front : List ℕ} (counted : IsCounted p s)
    (i : Drains p s t c b front) where
  -- how often an event stands in core c's order, before and after
  times_was : (e : ℕ) → times (seen s c) e
      ≡ times s.performed e + times front e + times (b ∷ []) e + times i.back e
  times_was e = omega (
    arith,
    times_append s.performed (s.buffer c) e,
    ap (λ (q : List ℕ). times q e) i.was,
    times_append front (b ∷ i.back) e,
    times_append (b ∷ []) i.back e,
  )

  -- the drain changes no count
  times_is : (e : ℕ) → times (seen t c) e ≡ times (seen s c) e
  times_is e = omega (
    arith,
    times_was e,
    times_append t.performed (t.buffer c) e,
    ap (λ (m : List ℕ). times m e) i.performed,
    times_append s.performed (b ∷ []) e,
    ap (λ (q : List ℕ). times q e) i.is,
    times_append front i.back e,
  )

  -- it waited
  pub drain_waits : 0 < times (s.buffer c) b
  drain_waits =
      omega (
        arith,
        ap (λ (q : List ℕ). times q b) i.was,
        times_append front (b ∷ i.back) b,
        times_here i.back b b refl,
      )

  -- it is of that core
  pub drain_core : p.core b ≡ c
  drain_core = (counted.waiting c b drain_waits).0

  -- it was executed
  pub drain_event : (b < p.count) × (b < s.next (p.core b))
  drain_event = counted.executed c b (omega (arith, drain_waits, times_append s.performed (s.buffer c) b))

  -- it stood once in its core's order
  pub drain_once : times (seen s (p.core b)) b ≡ 1
  drain_once = counted.listed b drain_event.0 drain_event.1

  -- a drain is counted
  pub drain_counts : Counts p s t b
  drain_counts = record {
    others = λ d e eb. elim (cases_eq d c) [
      | inl own ↦ subst (λ (z : ℕ). times (seen t z) e ≡ times (seen s z) e) (sym own) (times_is e)
      | inr other ↦ omega (
        arith,
        times_append t.performed (t.buffer d) e,
        times_append s.performed (s.buffer d) e,
        ap (λ (m : List ℕ). times m e) i.performed,
        times_append s.performed (b ∷ []) e,
        single_other b e eb,
        ap (λ (q : List ℕ). times q e) (i.others d other),
      )
    ];
    next = λ e eb done. omega (arith, done, i.next (p.core e));
    next_grows = λ d. omega (arith, i.next d);
    waiting = λ d e h. elim (cases_eq d c) [
      | inl own ↦
          let at_c : 0 < times (t.buffer c) e = subst (λ (z : ℕ). 0 < times (t.buffer z) e) own h in
          let was : (p.core e ≡ c) × (p.store e ≡ true) = counted.waiting c e (omega (
            arith,
            at_c,
            ap (λ (q : List ℕ). times q e) i.is,
            times_append front i.back e,
            ap (λ (q : List ℕ). times q e) i.was,
            times_append front (b ∷ i.back) e,
            times_append (b ∷ []) i.back e,
          )) in
          (was.0 ∙ sym own, was.1)
      | inr other ↦ counted.waiting d e (omega (arith, h, ap (λ (q : List ℕ). times q e) (i.others d other)))
    ];
    b_event = (drain_event.0, omega (arith, drain_event.1, i.next (p.core b)));
    b_once = rw drain_core (omega (arith, times_is b, subst (λ (z : ℕ). times (seen s z) b ≡ 1) drain_core drain_once));
  }

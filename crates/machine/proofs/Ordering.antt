-- How each kind of step keeps the order that TSO asks for, where no fault is at work.
use Rattle.std.proofs.Common.{◌≡◌, ◌≢◌, ◌<◌, ◌+◌, ◌⊎◌, inl, inr, ℕ, Bool, true, false, ◌&&◌, Option, Some}
use Rattle.std.proofs.Common.{None, List, [], ◌∷◌, ◌++◌, length, arith, refl, sym, ap, subst, ◌∙◌}
use Rattle.std.proofs.Common.{append_assoc}
use Rattle.std.proofs.lemmas.List.{append-nil}
use Rattle.std.proofs.lemmas.Bool.{cases_eq}
use Rattle.recording.specs.Order.{place, times, Before, Enumerates}
use Rattle.recording.specs.OrderLaws.{place_here, times_here, times_nil, times_append}
use Rattle.recording.specs.OrderLaws.{place_append_right, cases_times, left_before_right}
use Rattle.machine.proofs.OrderLemmas.{inserted}
use Rattle.machine.proofs.Seen.{Static, Snapshot, seen, Own, CanSee, IsLast, IsNewest, IsCounted, IsOrdered}
use Rattle.machine.proofs.Seen.{performed_is_seen, not_seen, not_performed, seen_is_listed, last_seen, Grows}
use Rattle.machine.proofs.Seen.{unmoved, moved, before_grown, is_last_grown}
use Rattle.machine.proofs.Counting.{single_other, Counts, Executes, Issues, Performs, Drains, drain_waits}
use Rattle.machine.proofs.Counting.{drain_core, drain_event, drain_once}

-- the step from s to t moves the event b, and the orders that cores see grow by b alone
pub record Orders (p : Static) (s t : Snapshot) (b : ℕ) : Type 0 where
  pub grows : (d : ℕ) → Grows p b s.performed d (seen s d) (seen t d)
  pub source : (e : ℕ) → e ≢ b → t.source e ≡ s.source e
  pub performed : (e : ℕ) → e ≢ b → times t.performed e ≡ times s.performed e
  pub b_first : (f : ℕ) → Own p b f → f < t.next (p.core f) → (p.store b && p.load f) ≡ false
      → Before (seen t (p.core f)) b f
  pub b_last : (e : ℕ) → Own p e b → (p.store e && p.load b) ≡ false → Before (seen t (p.core b)) e b
  pub b_value : (a : ℕ) → p.reads b ≡ Some a → 0 < times t.performed b
      → IsLast p (seen t (p.core b)) b a (t.source b)

-- such a step keeps the order
pub ordered_kept : {p : Static} {s t : Snapshot} {b : ℕ} → IsCounted p s → IsOrdered p s → Counts p s t b
    → Orders p s t b → IsOrdered p t
ordered_kept {p} {s} {t} {b} counted ordered count step = record { kept = kept; values = values }
  where
    kept : (e f : ℕ) → Own p e f → f < t.next (p.core f) → (p.store e && p.load f) ≡ false
        → Before (seen t (p.core f)) e f
    kept e f own done strong = elim (cases_eq e b) [
      | inl e_is ↦ subst (λ (z : ℕ). Own p z f → (p.store z && p.load f) ≡ false
          → Before (seen t (p.core f)) z f) (sym e_is) (λ o r. step.b_first f o done r) own strong
      | inr e_other ↦ elim (cases_eq f b) [
        | inl f_is ↦ subst (λ (z : ℕ). Own p e z → (p.store e && p.load z) ≡ false
            → Before (seen t (p.core z)) e z) (sym f_is) (step.b_last e) own strong
        | inr f_other ↦ before_grown p (p.core f) (step.grows (p.core f)) e f e_other f_other
            (ordered.kept e f own (count.next f f_other done) strong)
      ]
    ]

    values : (e a : ℕ) → p.reads e ≡ Some a → 0 < times t.performed e
        → IsLast p (seen t (p.core e)) e a (t.source e)
    values e a reads there = elim (cases_eq e b) [
      | inl same ↦ subst (λ (z : ℕ). p.reads z ≡ Some a → 0 < times t.performed z
          → IsLast p (seen t (p.core z)) z a (t.source z)) (sym same) (step.b_value a) reads there
      | inr other ↦
          let was : 0 < times s.performed e = omega (arith, there, step.performed e other) in
          let last : IsLast p (seen s (p.core e)) e a (s.source e) = ordered.values e a reads was in
          let done : e < s.next (p.core e) = (counted.executed 0 e (performed_is_seen s 0 e was)).1 in
          subst (λ (z : Option ℕ). IsLast p (seen t (p.core e)) e a z) (sym (step.source e other))
          (is_last_grown p e a (step.grows (p.core e)) other was (s.source e)
          (λ w is. seen_is_listed p s counted e a w done
          (last_seen p (seen s (p.core e)) e a (s.source e) w is last)) last)
    ]

module _ {p : Static} {s t : Snapshot} {b : ℕ} (counted : IsCounted p s) (i : Executes p s t b) where
  -- an event that is executed was seen nowhere
  unseen : (d : ℕ) → times (seen s d) b ≡ 0
  unseen d = not_seen p s counted b d (omega (arith, i.next_was))

  -- what is earlier on its core is seen there
  seen_earlier : (e : ℕ) → Own p e b → 0 < times (seen s (p.core b)) e
  seen_earlier e own = subst (λ (z : ℕ). 0 < times (seen s z) e) own.2 (omega (
    arith,
    counted.listed e (omega (arith, own, i.event))
        (subst (λ (z : ℕ). e < s.next z) (sym own.2) (omega (arith, own, i.next_was))),
  ))

  -- what is later on its core is not executed
  not_later : (f : ℕ) → Own p b f → ¬ (f < t.next (p.core f))
  not_later f own done = omega (arith, own, i.next, subst (λ (c : ℕ). f < t.next c) (sym own.2) done)

  -- nor performed
  hidden : (e : ℕ) → 0 < times s.performed e → ¬ Own p b e
  hidden e there own = omega (
    arith,
    own,
    i.next_was,
    subst (λ (z : ℕ). e < s.next z) (sym own.2) (counted.executed 0 e (performed_is_seen s 0 e there)).1,
  )

-- a store that goes to its buffer comes last in its core's order
pub issue_orders : {p : Static} {s t : Snapshot} {b : ℕ} → IsCounted p s → Issues p s t b → Orders p s t b
issue_orders {p} {s} {t} {b} counted i = record {
  grows = grows;
  source = i.executes.source;
  performed = λ e eb. ap (λ (m : List ℕ). times m e) i.performed;
  b_first = λ f own done strong. absurd (not_later counted i.executes f own done);
  b_last = last;
  b_value = λ a reads there. absurd (let clash : None ≡ Some a = sym i.reads ∙ reads in cc);
}
  where
    seen_own : seen t (p.core b) ≡ seen s (p.core b) ++ b ∷ []
    seen_own = rw (i.performed, i.buffer) (sym (append_assoc s.performed (s.buffer (p.core b)) (b ∷ [])))

    seen_other : (d : ℕ) → d ≢ p.core b → seen t d ≡ seen s d
    seen_other d other =
        ap (λ (m : List ℕ). m ++ t.buffer d) i.performed
        ∙ ap (λ (q : List ℕ). s.performed ++ q) (i.others d other)

    own_grows : Grows p b s.performed (p.core b) (seen s (p.core b)) (seen s (p.core b) ++ b ∷ [])
    own_grows = subst (λ (o : List ℕ). Grows p b s.performed (p.core b) o (seen s (p.core b) ++ b ∷ []))
        (append-nil (seen s (p.core b)))
        (moved (seen s (p.core b)) [] (rw append-nil (unseen counted i.executes (p.core b)))
        (λ e there. performed_is_seen s (p.core b) e there)
        (λ e there core. hidden counted i.executes e there))

    grows : (d : ℕ) → Grows p b s.performed d (seen s d) (seen t d)
    grows d = elim (cases_eq d (p.core b)) [
      | inl own ↦ rw own (rw seen_own own_grows)
      | inr other ↦ rw (seen_other d other) unmoved
    ]

    last : (e : ℕ) → Own p e b → (p.store e && p.load b) ≡ false → Before (seen t (p.core b)) e b
    last e own strong = rw seen_own (left_before_right (seen s (p.core b)) (b ∷ []) e b
        (seen_earlier counted i.executes e own) (unseen counted i.executes (p.core b))
        (omega (arith, times_here [] b b refl)))

-- an event that is performed in TSO's order: no plain store, a plain load or with an empty buffer, and
-- it reads the newest write
pub record Follows (p : Static) (s t : Snapshot) (b : ℕ) : Type 0 where
  pub store : p.store b ≡ false
  pub allowed : (p.load b ≡ true) ⊎ (s.buffer (p.core b) ≡ [])
  pub newest : (a : ℕ) → p.reads b ≡ Some a → IsNewest p (seen s (p.core b)) a (t.source b)

-- an event that is performed comes after all that was performed
pub perform_orders : {p : Static} {s t : Snapshot} {b : ℕ} → IsCounted p s → Performs p s t b
    → Follows p s t b → Orders p s t b
perform_orders {p} {s} {t} {b} counted i f = record {
  grows = λ d. subst (λ (o : List ℕ). Grows p b s.performed d (seen s d) o) (sym (seen_now d))
      (moved s.performed (s.buffer d) (unseen counted i.executes d) (λ e there. there)
      (λ e there core. hidden counted i.executes e there));
  source = i.executes.source;
  performed = λ e eb. omega (
    arith,
    ap (λ (m : List ℕ). times m e) i.performed,
    times_append s.performed (b ∷ []) e,
    single_other b e eb,
  );
  b_first = λ g own done strong. absurd (not_later counted i.executes g own done);
  b_last = last;
  b_value = λ a reads there. subst (λ (o : List ℕ). IsLast p o b a (t.source b)) (sym (seen_now (p.core b)))
      (value a (t.source b) (f.newest a reads));
}
  where
    seen_now : (d : ℕ) → seen t d ≡ s.performed ++ b ∷ s.buffer d
    seen_now d = rw (i.performed, i.buffer) (append_assoc s.performed (b ∷ []) (s.buffer d))

    b_not_left : times s.performed b ≡ 0
    b_not_left = not_performed s (p.core b) b (unseen counted i.executes (p.core b))

    left_first : (e : ℕ) → 0 < times s.performed e → Before (s.performed ++ b ∷ s.buffer (p.core b)) e b
    left_first e there =
        left_before_right s.performed (b ∷ s.buffer (p.core b)) e b there b_not_left
        (omega (arith, times_here (s.buffer (p.core b)) b b refl))

    last : (e : ℕ) → Own p e b → (p.store e && p.load b) ≡ false → Before (seen t (p.core b)) e b
    last e own strong =
        rw (seen_now (p.core b)) (left_first e (elim (cases_times (s.buffer (p.core b)) e) [
          | inl none ↦ omega
              (arith, none, seen_earlier counted i.executes e own, times_append s.performed (s.buffer (p.core b)) e)
          | inr waits ↦ elim f.allowed [
            | inl load ↦ absurd (let clash : true ≡ false =
                sym (ap (λ (x : Bool). x && p.load b) (counted.waiting (p.core b) e waits).1 ∙ load)
                ∙ strong in cc)
            | inr empty ↦ absurd (omega (arith, waits, ap (λ (q : List ℕ). times q e) empty, times_nil e))
          ]
        ]))

    visible_seen : (a w : ℕ) → CanSee p (s.performed ++ b ∷ s.buffer (p.core b)) b a w
        → 0 < times (seen s (p.core b)) w
    visible_seen a w h = elim h.2 [
      | inl before ↦
          let here : place (s.performed ++ b ∷ s.buffer (p.core b)) b ≡ length s.performed + 0 =
          omega (
            arith,
            place_append_right s.performed (b ∷ s.buffer (p.core b)) b b_not_left,
            place_here (s.buffer (p.core b)) b b refl,
          ) in
          elim (cases_times s.performed w) [
            | inl none ↦ absurd (omega (
              arith,
              before,
              here,
              place_append_right s.performed (b ∷ s.buffer (p.core b)) w none,
            ))
            | inr there ↦ performed_is_seen s (p.core b) w there
          ]
      | inr own ↦ seen_earlier counted i.executes w own
    ]

    seen_visible : (a w : ℕ) → p.writes w ≡ Some a → 0 < times (seen s (p.core b)) w
        → CanSee p (s.performed ++ b ∷ s.buffer (p.core b)) b a w
    seen_visible a w writes there = (
      writes,
      (λ wb. omega (arith, there, unseen counted i.executes (p.core b), ap (times (seen s (p.core b))) wb)),
      elim (cases_times s.performed w) [
        | inl none ↦
            let waits : 0 < times (s.buffer (p.core b)) w =
            omega (arith, there, none, times_append s.performed (s.buffer (p.core b)) w) in
            let core : p.core w ≡ p.core b = (counted.waiting (p.core b) w waits).0 in
            inr (
              omega (
                arith,
                i.executes.next_was,
                subst (λ (z : ℕ). w < s.next z) core
                    (counted.executed (p.core b) w there).1,
              ),
              i.executes.event,
              core,
            )
        | inr left ↦ inl (left_first w left)
      ],
    )

    value : (a : ℕ) (o : Option ℕ) → IsNewest p (seen s (p.core b)) a o
        → IsLast p (s.performed ++ b ∷ s.buffer (p.core b)) b a o
    value a None newest = λ w h. newest w (visible_seen a w h) h.0
    value a (Some w) newest = (
      seen_visible a w newest.1 newest.0,
      λ v h. elim (newest.2 v (visible_seen a v h) h.0) [
        | inl one ↦ inl one
        | inr before ↦ inr (inserted s.performed (s.buffer (p.core b)) b v w
            h.1 (λ wb. omega (
              arith,
              newest.0,
              unseen counted i.executes (p.core b),
              ap (times (seen s (p.core b))) wb,
            )) before)
      ],
    )

-- the oldest store of a core goes to memory: its core's order stays as it was
pub drain_orders : {p : Static} {s t : Snapshot} {c b : ℕ} → IsCounted p s → IsOrdered p s
    → Drains p s t c b [] → Orders p s t b
drain_orders {p} {s} {t} {c} {b} counted ordered i = record {
  grows = grows;
  source = λ e eb. i.source e;
  performed = λ e eb. omega (
    arith,
    ap (λ (m : List ℕ). times m e) i.performed,
    times_append s.performed (b ∷ []) e,
    single_other b e eb,
  );
  b_first = λ f own done strong. rw (← own.2) (rw same_order (subst (λ (z : ℕ). Before (seen s z) b f) (sym own.2)
      (ordered.kept b f own (omega (arith, done, i.next (p.core f))) strong)));
  b_last = λ e own strong. rw same_order (ordered.kept e b own event.1 strong);
  b_value = λ a reads there. absurd (let clash : None ≡ Some a = sym i.reads ∙ reads in cc);
}
  where
    core : p.core b ≡ c
    core = drain_core counted i

    event : (b < p.count) × (b < s.next (p.core b))
    event = drain_event counted i

    seen_own : seen t c ≡ seen s c
    seen_own = rw (i.performed, i.is, i.was) (append_assoc s.performed (b ∷ []) i.back)

    same_order : seen t (p.core b) ≡ seen s (p.core b)
    same_order = subst (λ (z : ℕ). seen t z ≡ seen s z) (sym core) seen_own

    not_left : times s.performed b ≡ 0
    not_left = omega (
      arith,
      subst (λ (z : ℕ). times (seen s z) b ≡ 1) core
          (drain_once counted i),
      times_append s.performed (s.buffer c) b,
      drain_waits counted i,
    )

    fresh : (d : ℕ) → d ≢ c → times (seen s d) b ≡ 0
    fresh d other = elim (cases_times (s.buffer d) b) [
      | inl none ↦ omega (arith, none, not_left, times_append s.performed (s.buffer d) b)
      | inr some ↦ absurd (other (sym (counted.waiting d b some).0 ∙ core))
    ]

    seen_other : (d : ℕ) → d ≢ c → seen t d ≡ s.performed ++ b ∷ s.buffer d
    seen_other d other =
        ap (λ (m : List ℕ). m ++ t.buffer d) i.performed
        ∙ (append_assoc s.performed (b ∷ []) (t.buffer d)
        ∙ ap (λ (q : List ℕ). s.performed ++ b ∷ q) (i.others d other))

    grows : (d : ℕ) → Grows p b s.performed d (seen s d) (seen t d)
    grows d = elim (cases_eq d c) [
      | inl own ↦ rw own (subst (λ (o : List ℕ). Grows p b s.performed c (seen s c) o) (sym seen_own) unmoved)
      | inr other ↦ rw (seen_other d other) (moved s.performed (s.buffer d) (fresh d other) (λ e h. h)
          (λ e h at own. other (sym at ∙ (sym own.2 ∙ core))))
    ]

-- every event was executed and none waits
pub record IsAllDone (p : Static) (s : Snapshot) : Type 0 where
  pub done : (e : ℕ) → e < p.count → e < s.next (p.core e)
  pub empty : (c : ℕ) → s.buffer c ≡ []

-- then every core sees what was performed, and nothing else
pub seen_all : (s : Snapshot) → ((c : ℕ) → s.buffer c ≡ []) → (c : ℕ) → seen s c ≡ s.performed
seen_all s empty c = ap (λ (q : List ℕ). s.performed ++ q) (empty c) ∙ append-nil s.performed

-- then each event was performed once
pub all_listed : (p : Static) (s : Snapshot) → IsCounted p s → IsAllDone p s
    → Enumerates (λ e. e < p.count) s.performed
all_listed p s counted end = record {
  once = λ e event. rw (← seen_all s end.empty (p.core e)) (counted.listed e event (end.done e event));
  nothing_else = λ e there. (counted.executed 0 e (performed_is_seen s 0 e there)).0;
}

-- the order of what was performed keeps what TSO keeps, and each read has the last write that it can see
pub record Meets (p : Static) (s : Snapshot) : Type 0 where
  pub kept : (e f : ℕ) → Own p e f → (p.store e && p.load f) ≡ false → Before s.performed e f
  pub values : (e a : ℕ) → e < p.count → p.reads e ≡ Some a → IsLast p s.performed e a (s.source e)

-- and the performed list is in order
pub all_meet : (p : Static) (s : Snapshot) → IsCounted p s → IsOrdered p s → IsAllDone p s → Meets p s
all_meet p s counted ordered end = record {
  kept = λ e f own strong. rw (← seen_all s end.empty (p.core f)) (ordered.kept e f own (end.done f own.1) strong);
  values = λ e a event reads. rw (← seen_all s end.empty (p.core e))
      (ordered.values e a reads (omega (arith, (all_listed p s counted end).once e event)));
}

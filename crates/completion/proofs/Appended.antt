-- One more event is performed.
use Rattle.std.proofs.Common.{◌≡◌, ◌<◌, ◌∙◌, ◌⊎◌, inl, inr, ℕ, Option, None, List, [], ◌∷◌, ◌++◌, get_or}
use Rattle.std.proofs.Common.{slice_set, arith, refl, sym, ap, subst, length-set, get_or-set_same, get_or-set_other}
use Rattle.std.proofs.lemmas.Bool.{cases_eq}
use Rattle.recording.specs.Execution.{event_count, Kept, Reads}
use Rattle.recording.specs.Order.{Before, times}
use Rattle.recording.specs.OrderLaws.{before_in_left, left_before_right, times_append, times_here, times_nil}
use Rattle.recording.specs.OrderLaws.{times_there}
use Rattle.values.specs.Refused.{events_alone}
use Rattle.values.specs.Values.{Values}
use Rattle.completion.specs.Performed.{ArePerformed, IsSourceAfter, until}
use Rattle.completion.proofs.OrderLists.{until_last, until_left}

-- what stands in a list with one more
pub in_more : (order : List ℕ) (e f : ℕ) → 0 < times (order ++ e ∷ []) f → (e ≡ f) ⊎ (0 < times order f)
in_more order e f there = elim (cases_eq e f) [
  | inl one ↦ inl one
  | inr other ↦ inr (omega (arith, there, times_append order (e ∷ []) f, times_there [] e f other, times_nil f))
]

pub still_in : (order : List ℕ) (e f : ℕ) → 0 < times order f → 0 < times (order ++ e ∷ []) f
still_in order e f there = omega (arith, there, times_append order (e ∷ []) f)

pub last_in : (order : List ℕ) (e : ℕ) → 0 < times (order ++ e ∷ []) e
last_in order e = omega (arith, times_append order (e ∷ []) e, times_here [] e e refl)

module _ (v : Values) (order : List ℕ) (sources : List (Option ℕ)) (e : ℕ) (s : Option ℕ)
    (h : ArePerformed v order sources) (inside : e < event_count (events_alone v)) (new : times order e ≡ 0)
    (kept : (f : ℕ) → Kept (events_alone v) f e → 0 < times order f)
    (right : (a : ℕ) → Reads (events_alone v) e a → IsSourceAfter v order e a s) where
  pub appended : ArePerformed v (order ++ e ∷ []) (slice_set sources e s)
  appended = record {
    size = length-set sources e s ∙ h.size;
    events = λ f there. elim (in_more order e f there) [
      | inl one ↦ subst (λ (k : ℕ). k < event_count (events_alone v)) one inside
      | inr old ↦ h.events f old
    ];
    once = λ f. elim (cases_eq e f) [
      | inl one ↦ omega (
        arith,
        times_append order (e ∷ []) f,
        times_here [] e f one,
        times_nil f,
        new,
        ap (times order) one,
      )
      | inr other ↦ omega (arith, h.once f, times_append order (e ∷ []) f, times_there [] e f other, times_nil f)
    ];
    kept = λ f g pair there. elim (in_more order e g there) [
      | inr old ↦ before_in_left order (e ∷ []) f g (h.kept f g pair old)
      | inl one ↦ subst (λ (k : ℕ). Before (order ++ e ∷ []) f k) one
          (left_before_right order (e ∷ []) f e (kept f (subst (λ (k : ℕ). Kept (events_alone v) f k) (sym one) pair)) new
          (omega (arith, times_here [] e e refl)))
    ];
    reads = λ f a reads there. elim (cases_eq f e) [
      | inl one ↦
          let source : get_or (slice_set sources e s) f None ≡ s =
          ap (λ (k : ℕ). get_or (slice_set sources e s) k None) one
          ∙ get_or-set_same sources e s None (omega (arith, inside, h.size)) in
          let front : until (order ++ e ∷ []) f ≡ order =
          ap (until (order ++ e ∷ [])) one ∙ until_last order e new in
          let mine : IsSourceAfter v order f a s = subst (λ (k : ℕ). IsSourceAfter v order k a s) (sym one)
          (right a (subst (λ (k : ℕ). Reads (events_alone v) k a) one reads)) in
          subst (λ (l : List ℕ). IsSourceAfter v l f a (get_or (slice_set sources e s) f None)) (sym front)
          (subst (IsSourceAfter v order f a) (sym source) mine)
      | inr other ↦
          let old : 0 < times order f = elim (in_more order e f there) [
            | inl one ↦ absurd (other (sym one))
            | inr old ↦ old
          ] in
          subst (λ (l : List ℕ). IsSourceAfter v l f a (get_or (slice_set sources e s) f None))
          (sym (until_left order e f old))
          (subst (IsSourceAfter v (until order f) f a) (sym (get_or-set_other sources e f s None other))
          (h.reads f a reads old))
    ];
  }

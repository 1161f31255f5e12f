-- A restriction to what an answer needs has that answer.
use Rattle.std.proofs.Common.{◌≡◌, ◌<◌, inl, inr, ℕ, List, [], ◌∷◌, Vec, Global, map, arith, sym, subst, refl}
use Rattle.std.proofs.lemmas.Bool.{cases_eq}
use Rattle.recording.specs.Execution.{Execution, event_count}
use Rattle.recording.specs.Order.{place, times}
use Rattle.recording.specs.OrderLaws.{times_here, times_there}
use Rattle.recording.specs.Tso.{IsWellFormed}
use Rattle.relations.specs.Forced.{Forced}
use Rattle.long.specs.declared.answer.LongAnswer.{LongAnswer}
use Rattle.long.specs.declared.answer.LongAnswer.TheVariants.{Overlook, Cycle}
use Rattle.long.specs.Answer.{IsLongAnswer}
use Rattle.long.specs.Critical.{IsCritical}
use Rattle.reduction.specs.Laws.{IsFaithful}
use Rattle.reduction.specs.Long.{IsLongReduction}
use Rattle.reduction.specs.Needed.{AreNeeded}
use Rattle.reduction.specs.Pruned.{pruned}
use Rattle.reduction.specs.Restriction.{restriction}
use Rattle.reduction.proofs.Cycles.{critical_across, critical_down}
use Rattle.reduction.proofs.Faithful.{cycle_no_order, every_restriction_is_faithful, pair_within}
use Rattle.reduction.proofs.Lists.{stands}
use Rattle.reduction.proofs.Pruned.{forced_between, least_overlook_up, no_overlook_up, pruned_well_formed}
use Rattle.reduction.proofs.Reductions.{cycle_events, overlook_events}

-- the events of an overlook are events
pub overlook_answer_events : (x : Execution) (a : LongAnswer) (l s : ℕ) → a ≡ Overlook l s → IsLongAnswer x a
    → (k : ℕ) → 0 < times (l ∷ s ∷ []) k → k < event_count x
overlook_answer_events x a l s is answer =
    overlook_events x l s (subst (λ (b : LongAnswer). IsLongAnswer x b) is answer).0

-- and so are those of a cycle
pub cycle_answer_events : (x : Execution) → IsWellFormed x → (a : LongAnswer) (c : Vec ℕ Global) → a ≡ Cycle c
    → IsLongAnswer x a → (k : ℕ) → 0 < times c.items k → k < event_count x
cycle_answer_events x wf a c is answer =
    cycle_events x wf c.items (subst (λ (b : LongAnswer). IsLongAnswer x b) is answer).0.cycle

module _ (x : Execution) (wf : IsWellFormed x) (vs ks : List ℕ) (y : Execution) (needed : AreNeeded (pruned x vs) vs ks)
    (r : y ≡ restriction (pruned x vs) ks) where
  -- the restriction is faithful
  faithful : IsFaithful (pruned x vs) ks y
  faithful = subst (λ (z : Execution). IsFaithful (pruned x vs) ks z) (sym r)
      (every_restriction_is_faithful (pruned x vs) ks (pruned_well_formed x vs wf) needed.closed)

  -- where these are the events of an overlook it has that one
  overlook_kept : (a : LongAnswer) (l s : ℕ) → vs ≡ l ∷ s ∷ [] → a ≡ Overlook l s → IsLongAnswer x a
      → IsLongReduction x a ks y
  overlook_kept a l s events is answer =
      let here = subst (λ (b : LongAnswer). IsLongAnswer x b) is answer in
      let own_l : 0 < times vs l = subst (λ (es : List ℕ). 0 < times es l) (sym events)
      (omega (arith, times_here (s ∷ []) l l refl)) in
      let own_s : 0 < times vs s = subst (λ (es : List ℕ). 0 < times es s) (sym events) (elim (cases_eq l s) [
        | inl same ↦ omega (arith, times_here (s ∷ []) l s same)
        | inr other ↦ omega (arith, times_there (s ∷ []) l s other, times_here [] s s refl)
      ]) in
      let least = faithful.least_overlook l s (needed.these l own_l) (needed.these s own_s)
      (least_overlook_up x vs l s (stands vs l own_l) here.0) in
      subst (λ (b : LongAnswer). IsLongReduction x b ks y) (sym is) (record {
        needed = subst (λ (es : List ℕ). AreNeeded (pruned x es) es ks) events needed;
        restricted = subst (λ (es : List ℕ). y ≡ restriction (pruned x es) ks) events r;
        faithful = subst (λ (es : List ℕ). IsFaithful (pruned x es) ks y) events faithful;
        answer = least;
      })

  -- where these are the events of a cycle it has that one
  cycle_kept : (a : LongAnswer) (c : Vec ℕ Global) → vs ≡ c.items → a ≡ Cycle c → IsLongAnswer x a
      → IsLongReduction x a ks y
  cycle_kept a c events is answer =
      let here = subst (λ (b : LongAnswer). IsLongAnswer x b) is answer in
      let whole : IsCritical (Forced x) vs = subst (λ (es : List ℕ). IsCritical (Forced x) es) (sym events) here.0 in
      let own : IsCritical (Forced (pruned x vs)) vs = critical_across (Forced x) (Forced (pruned x vs)) vs
      (λ e f he hf. let same = forced_between x vs e f (stands vs e he) (stands vs f hf) in (same.1, same.0)) whole in
      let kept : IsCritical (Forced y) (map (place ks) vs) = critical_down ks needed.closed.ascending (Forced (pruned x vs))
      (Forced y) faithful.forced (pair_within (pruned x vs) ks y (pruned_well_formed x vs wf) needed.closed faithful.part) vs
      needed.these own in
      subst (λ (b : LongAnswer). IsLongReduction x b ks y) (sym is) (record {
        needed = subst (λ (es : List ℕ). AreNeeded (pruned x es) es ks) events needed;
        restricted = subst (λ (es : List ℕ). y ≡ restriction (pruned x es) ks) events r;
        faithful = subst (λ (es : List ℕ). IsFaithful (pruned x es) ks y) events faithful;
        answer = (
          subst (λ (es : List ℕ). IsCritical (Forced y) (map (place ks) es)) events kept,
          faithful.no_overlook (no_overlook_up x vs here.1),
          cycle_no_order y faithful.well_formed (map (place ks) vs) kept.cycle,
        );
      })

-- the restriction to what an overlook needs has that overlook
pub overlook_part : (x : Execution) → IsWellFormed x → (a : LongAnswer) (l s : ℕ) → a ≡ Overlook l s → IsLongAnswer x a
    → (ks : List ℕ) (y : Execution) → AreNeeded (pruned x (l ∷ s ∷ [])) (l ∷ s ∷ []) ks
    → y ≡ restriction (pruned x (l ∷ s ∷ [])) ks → IsLongReduction x a ks y
overlook_part x wf a l s is answer ks y needed r = overlook_kept x wf (l ∷ s ∷ []) ks y needed r a l s refl is answer

-- the restriction to what a cycle needs has that cycle
pub cycle_part : (x : Execution) → IsWellFormed x → (a : LongAnswer) (c : Vec ℕ Global) → a ≡ Cycle c → IsLongAnswer x a
    → (ks : List ℕ) (y : Execution) → AreNeeded (pruned x c.items) c.items ks
    → y ≡ restriction (pruned x c.items) ks → IsLongReduction x a ks y
cycle_part x wf a c is answer ks y needed r = cycle_kept x wf c.items ks y needed r a c refl is answer

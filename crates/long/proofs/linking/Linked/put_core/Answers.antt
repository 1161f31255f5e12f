use Rattle.std.proofs.Common.{◌≡◌, ◌≤◌, ◌+◌, inl, inr, ℕ, None, arith, sym, subst, ◌∙◌}
use Rattle.std.proofs.lemmas.Bool.{cases_eq}
use Rattle.std.proofs.lemmas.List.{get_or_default}
use Rattle.recording.specs.declared.event.Event.TheVariants.{F}
use Rattle.relations.specs.Forced.{IsCoreStart}
use Rattle.long.specs.Linked.{HasPairsOf}
use Rattle.long.specs.Steps.{MayBeLastOther, MayBeLastStore}
use Rattle.long.proofs.PairsOf.{pairs_kept}
use Rattle.long.proofs.Steps.{last_other_none, last_store_none}
use Rattle.long.proofs.linking.Linked.put_core.Goals as goal

pub loop-place-init : goal.loop-place-init
loop-place-init c =
    let x = c.args.recording.now in
    let start = c.args.start in
    let first : start ≡ start + 0 = omega arith in
    record {
      few = omega (arith, c.requires.few);
      linked = c.requires.linked;
      kept = λ d e some. some;
      store = subst (λ (n : ℕ). MayBeLastStore x start None n) first (last_store_none x start);
      other = subst (λ (n : ℕ). MayBeLastOther x start None n) first (last_other_none x start);
      here = λ i none. absurd (omega (arith, none));
    }

pub indexed_event-event-requires-clause-number : goal.indexed_event-event-requires-clause-number
indexed_event-event-requires-clause-number c = omega (arith, c.requires.events.within, c.loop-place-test.true)

pub indexed_event-event-requires-clause-core : goal.indexed_event-event-requires-clause-core
indexed_event-event-requires-clause-core c = c.requires.core c.loop-place.place c.loop-place-test.true

pub indexed_event-event-requires-clause-event : goal.indexed_event-event-requires-clause-event
indexed_event-event-requires-clause-event c =
    c.requires.events.event c.loop-place.place c.loop-place-test.true
    ∙ get_or_default c.args.events.now c.loop-place.place F _ c.loop-place-test.true

pub put_event-requires-clause-start : goal.put_event-requires-clause-start
put_event-requires-clause-start c =
    subst (λ (n : ℕ). IsCoreStart c.args.recording.now c.args.start n) (sym c.indexed_event-event.ensures.number)
    (c.requires.events.first c.loop-place.place c.loop-place-test.true)

pub put_event-requires-clause-store : goal.put_event-requires-clause-store
put_event-requires-clause-store c =
    subst (λ (n : ℕ). MayBeLastStore c.args.recording.now c.args.start c.loop-place.store n)
    (sym c.indexed_event-event.ensures.number) c.loop-place.invariant.store

pub put_event-requires-clause-other : goal.put_event-requires-clause-other
put_event-requires-clause-other c =
    subst (λ (n : ℕ). MayBeLastOther c.args.recording.now c.args.start c.loop-place.other n)
    (sym c.indexed_event-event.ensures.number) c.loop-place.invariant.other

pub loop-place-preserved : goal.loop-place-preserved
loop-place-preserved c =
    let x = c.args.recording.now in
    let start = c.args.start in
    let place = c.loop-place.place in
    let was = c.loop-place.invariant in
    let event = c.indexed_event-event.ensures in
    let put = c.in_ok-put_event.ensures in
    let new = c.put_event.new.self in
    let number : c.indexed_event-event.result.number ≡ start + place = event.number in
    let from : start ≤ c.indexed_event-event.result.number = omega (arith, number) in
    let next : c.indexed_event-event.result.number + 1 ≡ start + (place + 1) = omega (arith, number) in
    record {
      few = omega (arith, put.few, was.few);
      linked = put.linked;
      kept = λ d e some. put.kept d e (was.kept d e some);
      store = subst (λ (n : ℕ). MayBeLastStore x start c.last_store-store.result n) next
          (c.last_store-store.ensures x start event.place from
          (subst (λ (n : ℕ). MayBeLastStore x start c.loop-place.store n) (sym number) was.store));
      other = subst (λ (n : ℕ). MayBeLastOther x start c.last_other-other.result n) next
          (c.last_other-other.ensures x start event.place from
          (subst (λ (n : ℕ). MayBeLastOther x start c.loop-place.other n) (sym number) was.other));
      here = λ i low. elim (cases_eq place i) [
        | inl one ↦ subst (λ (k : ℕ). HasPairsOf x (start + k) new) one
            (subst (λ (n : ℕ). HasPairsOf x n new) number put.here)
        | inr other ↦ pairs_kept x (start + i) c.loop-place.self new put.kept
            (was.here i (omega (arith, low, other)))
      ];
    }

pub returns-clause-here : goal.returns-clause-here
returns-clause-here c = λ i low. c.loop-place.invariant.here i (omega (arith, low, c.loop-place-test.false))

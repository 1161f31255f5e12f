use Rattle.std.proofs.Common.{◌≡◌, ◌<◌, ◌≤◌, ◌+◌, ℕ, List, Option, length, arith, sym, subst}
use Rattle.completion.specs.Situation.{memory_of}
use Rattle.completion.specs.Performed.{IsTrail, going, order_after}
use Rattle.completion.specs.Search.{event_of}
use Rattle.completion.specs.Situation.{events_of}
use Rattle.situations.specs.Situation.{drained_of, place_of}
use Rattle.completion.proofs.Carried.{past_free_event}
use Rattle.completion.proofs.Going.{going_away, going_here}
use Rattle.completion.proofs.trail.execute_core.Goals as goal

pub loop-place-preserved : goal.loop-place-preserved
loop-place-preserved c =
    let v = c.args.values.now in
    let old = c.args.old.now in
    let new = c.args.new.now in
    let j : ℕ = c.loop-place.place in
    let core : ℕ = c.args.core in
    let low : place_of old core ≤ j = omega (arith, c.loop-place.auto.place, c.place-place.ensures.value) in
    let high : j < place_of new core = omega (arith, c.loop-place-test.true, c.place-place-end.ensures.value) in
    let inside : j < length (events_of v.cores core) = omega (arith, high, c.requires.settles.within core) in
    let on : IsTrail v _ _ (going old new core (j + 1)) (drained_of new) (memory_of new) =
    past_free_event v c.loop-place.trail.order.items c.loop-place.trail.sources.items (going old new core j)
    (drained_of new) (memory_of new) c.loop-place.invariant (omega (arith, c.requires.room.few_events))
    c.requires.room.addresses core j inside (going_here old new core j) (going old new core (j + 1))
    (going_here old new core (j + 1)) (λ d apart. going_away old new core (j + 1) j d apart)
    (c.requires.settles.free core j low high) in
    subst (λ (l : List ℕ). IsTrail v l c.execute.new.trail.sources.items (going old new core (j + 1)) (drained_of new)
    (memory_of new)) (sym c.in_ok-execute.ensures.order)
    (subst (λ (l : List (Option ℕ)). IsTrail v (order_after v c.loop-place.trail.order.items core j (event_of v.cores core j)) l
    (going old new core (j + 1)) (drained_of new) (memory_of new))
    (sym c.in_ok-execute.ensures.sources) on)

pub returns : goal.returns
returns c =
    let old = c.args.old.now in
    let new = c.args.new.now in
    let at : c.loop-place.place ≡ place_of new c.args.core = omega (
      arith,
      c.loop-place-test.false,
      c.loop-place.auto.place-end,
      c.place-place-end.ensures.value,
      c.place-place.ensures.value,
      c.requires.settles.low c.args.core,
    ) in
    subst (λ (k : ℕ). IsTrail c.args.values.now c.loop-place.trail.order.items c.loop-place.trail.sources.items
    (going old new c.args.core k) (drained_of new) (memory_of new)) at c.loop-place.invariant

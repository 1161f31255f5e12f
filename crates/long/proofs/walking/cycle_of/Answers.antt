use Rattle.std.proofs.Common.{◌≡◌, ◌≢◌, ◌<◌, ◌-◌, ◌++◌, ◌∷◌, [], ℕ, List, get_or, length, arith, sym, subst, ap, ◌∙◌}
use Rattle.relations.specs.Cycle.{IsCycle}
use Rattle.relations.specs.Forced.{Forced}
use Rattle.recording.specs.Order.{place}
use Rattle.recording.specs.OrderLaws.{place_in}
use Rattle.recording.specs.PlaceLaws.{at_place}
use Rattle.std.proofs.lemmas.List.{get_or_push}
use Rattle.long.proofs.Lists.{length_push, each_push}
use Rattle.long.proofs.Closing.{taken_cycle}
use Rattle.long.proofs.walking.cycle_of.Goals as goal

pub returns-then-event-first : goal.returns-then-event-first
returns-then-event-first c =
    let stack = c.args.stack.now in
    let i = c.loop-i.i in
    let items = c.loop-i.cycle.items in
    let event = get_or stack (length stack - 1 - i) 0 in
    let now : c.push.new.self.items ≡ items ++ event ∷ [] = c.in_ok-push.ensures.items in
    let size : length items ≡ i = c.loop-i.invariant.size in
    λ x close. subst (λ (v : List ℕ). IsCycle (Forced x) v) (sym now)
    (taken_cycle x stack (items ++ event ∷ []) c.args.first close (omega (arith, length_push items event))
    (omega (arith, length_push items event, size, c.loop-i-test.true))
    (each_push (λ k e. e ≡ get_or stack (length stack - 1 - k) 0) items event 0
    (λ k low. (c.loop-i.invariant.each k low).0)
    (ap (λ (k : ℕ). get_or stack (length stack - 1 - k) 0) (sym size)))
    (get_or_push items event 0 (length (items ++ event ∷ []) - 1) (omega (arith, length_push items event))
    ∙ c.if-event-first.true))

pub loop-i-preserved : goal.loop-i-preserved
loop-i-preserved c =
    let stack = c.args.stack.now in
    let i = c.loop-i.i in
    let items = c.loop-i.cycle.items in
    let event = get_or stack (length stack - 1 - i) 0 in
    let now : c.push.new.self.items ≡ items ++ event ∷ [] = c.in_ok-push.ensures.items in
    let size : length items ≡ i = c.loop-i.invariant.size in
    record {
      size = omega (arith, ap (λ (v : List ℕ). length v) now, length_push items event, size);
      each = subst (λ (v : List ℕ). (k : ℕ) → k < length v → (get_or v k 0 ≡ get_or stack (length stack - 1 - k) 0)
          × (get_or v k 0 ≢ c.args.first)) (sym now)
          (each_push (λ k e. (e ≡ get_or stack (length stack - 1 - k) 0) × (e ≢ c.args.first)) items event 0
          c.loop-i.invariant.each
          (ap (λ (k : ℕ). get_or stack (length stack - 1 - k) 0) (sym size), c.if-event-first.false));
    }

pub unreachable-requires : goal.unreachable-requires
unreachable-requires c =
    let stack = c.args.stack.now in
    let at : place stack c.args.first < length stack = place_in stack c.args.first c.requires in
    let k : ℕ = length stack - 1 - place stack c.args.first in
    let back : length stack - 1 - k ≡ place stack c.args.first = omega (arith, at) in
    let both = c.loop-i.invariant.each k (omega (arith, at, c.loop-i.invariant.size, c.loop-i-test.false)) in
    both.1 (both.0 ∙ (ap (λ (i : ℕ). get_or stack i 0) back ∙ at_place stack c.args.first at))

use Rattle.std.proofs.Common.{◌≡◌, ◌<◌, ℕ, get_or, length, arith, subst}
use Rattle.std.proofs.lemmas.List.{get_or_default}
use Rattle.recording.specs.EnumerationLaws.{length_total}
use Rattle.recording.specs.PlaceLaws.{times_at}
use Rattle.long.specs.Positions.{ArePlaced}
use Rattle.long.proofs.Placed.{placed_all, placed_again, placed_none}
use Rattle.long.proofs.checking.positions.Goals as goal

pub returns-then-order-count : goal.returns-then-order-count
returns-then-order-count c total = c.if-order-count.true (length_total c.args.count c.args.order.now total)

pub returns-then-event-count : goal.returns-then-event-count
returns-then-event-count c total =
    let m = c.args.order.now in
    let k = c.loop-place.place in
    let room : k < length m = omega (arith, c.loop-place-test.true, c.if-order-count.false) in
    let low : get_or m k 0 < c.args.count = total.nothing_else (get_or m k 0) (times_at m k room) in
    omega (arith, low, c.if-event-count.true)

pub loop-place-init : goal.loop-place-init
loop-place-init c = placed_none c.args.order.now c.args.count c.in_ok-positions.positions.items
    (c.in_ok-positions.ensures.items_if_clones_equal (λ y h. h))

pub returns-then-index-count : goal.returns-then-index-count
returns-then-index-count c =
    let v = c.loop-place.positions.items in
    let e : ℕ = get_or c.args.order.now c.loop-place.place 0 in
    let low : e < length v = omega (arith, c.if-event-count.false, c.loop-place.invariant.size) in
    placed_again c.args.order.now c.args.count c.loop-place.place v c.loop-place.invariant
    (omega (arith, c.loop-place-test.true, c.if-order-count.false)) (omega (arith, c.if-event-count.false))
    (omega (
      arith,
      c.if-index-count.true,
      c.index.ensures,
      get_or_default v e c.index.result.now 0 low,
    ))

pub returns : goal.returns
returns c =
    let m = c.args.order.now in
    let all : c.loop-place.place ≡ c.args.count = omega (arith, c.loop-place-test.false, c.loop-place.auto.place-end) in
    placed_all m c.args.count c.loop-place.positions.items (omega (arith, c.if-order-count.false))
    (subst (λ (k : ℕ). ArePlaced m c.args.count k c.loop-place.positions.items) all c.loop-place.invariant)

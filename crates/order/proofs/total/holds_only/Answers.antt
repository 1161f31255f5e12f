use Rattle.std.proofs.Common.{false, true, refl, ◌≡◌, ◌<◌, ℕ, arith, slice_index, subst}
use Rattle.recording.specs.Order.{place}
use Rattle.recording.specs.Execution.{event_count}
use Rattle.recording.specs.OrderLaws.{place_in}
use Rattle.recording.specs.PlaceLaws.{at_place, times_at}
use Rattle.order.proofs.total.holds_only.Goals as goal

pub returns-then-order-i : goal.returns-then-order-i
returns-then-order-i c = (
  λ wrong. absurd (let no : false ≡ true = wrong in cc),
  λ only. absurd (omega (
    arith,
    only (slice_index c.args.order.now c.loop-i.i)
        (times_at c.args.order.now c.loop-i.i (omega arith)),
  )),
)

pub returns : goal.returns
returns c = (
  λ _ e there.
      let within = place_in c.args.order.now e there in
      subst (λ (v : ℕ). v < event_count c.args.recording.now) (at_place c.args.order.now e within)
      (c.loop-i.invariant (place c.args.order.now e) (omega arith)),
  λ _. refl,
)

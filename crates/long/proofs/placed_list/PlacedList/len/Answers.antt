use Rattle.std.proofs.Common.{length, arith, ap}
use Rattle.long.specs.PlacedEvents.{PlacedEvents}
use Rattle.long.proofs.placed_list.PlacedList.len.Goals as goal

pub returns : goal.returns
returns c = omega (
  arith,
  c.len.ensures,
  c.self.inside.events.ok.0,
  c.self.invariant.size,
  ap (λ (p : PlacedEvents). length p.numbers) c.self.view_is,
)

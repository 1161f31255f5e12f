use Rattle.std.proofs.Common.{◌≡◌, drop}
use Rattle.completion.specs.Situation.{memory_of}
use Rattle.completion.specs.Performed.{IsTrail}
use Rattle.completion.specs.Reachable.{Leads, after_moves}
use Rattle.completion.specs.Situation.{beginning}
use Rattle.situations.specs.Situation.{drained_of, place_of}
use Rattle.completion.proofs.trail.follow.Given as goal

abbrev pub invariant-loop-next : goal.invariant-loop-next
invariant-loop-next l = record {
  led : Leads l.values (beginning l.values) l.row;
  trail : IsTrail l.values l.trail.order.items l.trail.sources.items (place_of l.row) (drained_of l.row) (memory_of l.row);
  rest : after_moves l.values l.row (drop l.next-index l.turns) ≡ after_moves l.values (beginning l.values) l.turns;
}

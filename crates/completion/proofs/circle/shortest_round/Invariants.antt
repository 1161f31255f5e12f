use Rattle.std.specs.List.{All}
use Rattle.completion.specs.Inferred.{IsLink}
use Rattle.completion.proofs.circle.shortest_round.Given as goal

abbrev pub invariant-loop-event : goal.invariant-loop-event
invariant-loop-event l = All (IsLink l.values) l.shortest.items

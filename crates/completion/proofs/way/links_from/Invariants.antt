use Rattle.std.specs.List.{All}
use Rattle.values.specs.Values.{Values}
use Rattle.completion.specs.Inferred.{IsLink}
use Rattle.completion.proofs.way.links_from.Given as goal

abbrev pub invariant-loop : goal.invariant-loop
invariant-loop l = (v : Values) → All (IsLink v) l.links → All (IsLink v) l.way.items

use Rattle.outcomes.proofs.Ways.{IsWayBack}
use Rattle.outcomes.proofs.way.way_to.Given as goal

abbrev pub invariant-loop-tried : goal.invariant-loop-tried
invariant-loop-tried l = IsWayBack l.program.cores l.rows.keys l.at l.tried l.to l.turns.items

use Rattle.long.specs.Positions.{ArePlaced}
use Rattle.long.proofs.checking.positions.Given as goal

abbrev pub invariant-loop-place : goal.invariant-loop-place
invariant-loop-place l = ArePlaced l.order l.count l.place l.positions.items

use Rattle.std.proofs.Common.{◌≡◌, false, take}
use Rattle.std.specs.List.{list_any}
use Rattle.drawing.specs.Edges.{is_same_edge}
use Rattle.drawing.proofs.edges.is_drawn.Given as goal

abbrev pub invariant-loop-other : goal.invariant-loop-other
invariant-loop-other l = list_any (is_same_edge l.edge) (take l.other-index l.edges) ≡ false

use Rattle.drawing.specs.Bold.{AreCycleEdges}
use Rattle.drawing.proofs.bold.cycle_edges.Given as goal

abbrev pub invariant-loop-i : goal.invariant-loop-i
invariant-loop-i l = AreCycleEdges l.places l.cycle l.i l.edges.items

use Rattle.std.proofs.Common.{◌≡◌, ◌++◌}
use Rattle.texts.specs.Below.{texts_below}
use Rattle.drawing.specs.Nodes.{node_of_core}
use Rattle.drawing.proofs.nodes.put_nodes.Given as goal

abbrev pub invariant-loop-i : goal.invariant-loop-i
invariant-loop-i l = l.out.items ≡ l.fn.out.items
    ++ texts_below
    (node_of_core l.drawn.recording.now l.drawn.names.now l.drawn.numbers.now l.drawn.rest.now l.core) l.i

use Rattle.std.proofs.Common.{◌≡◌, ◌++◌}
use Rattle.texts.specs.Below.{texts_below}
use Rattle.drawing.specs.Nodes.{cluster_text}
use Rattle.drawing.proofs.nodes.put_clusters.Given as goal

abbrev pub invariant-loop-core : goal.invariant-loop-core
invariant-loop-core l = l.out.items ≡ l.fn.out.items
    ++ texts_below
    (cluster_text l.drawn.recording.now l.drawn.names.now l.drawn.numbers.now l.drawn.rest.now l.layout) l.core

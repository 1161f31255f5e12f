use Rattle.drawing.specs.Nodes.{cluster_text}
use Rattle.texts.specs.TextLaws.{next_text}
use Rattle.drawing.proofs.nodes.put_clusters.Goals as goal

pub loop-core-preserved : goal.loop-core-preserved
loop-core-preserved c =
    let drawn = c.args.drawn.now in
    next_text
    (cluster_text drawn.recording.now drawn.names.now drawn.numbers.now drawn.rest.now c.args.layout)
    c.loop-core.core _ _ _ c.loop-core.invariant c.in_ok-put_cluster.ensures

use Rattle.drawing.specs.Nodes.{node_of_core}
use Rattle.texts.specs.TextLaws.{next_text}
use Rattle.drawing.proofs.nodes.put_nodes.Goals as goal

pub loop-i-preserved : goal.loop-i-preserved
loop-i-preserved c =
    let drawn = c.args.drawn.now in
    next_text
    (node_of_core drawn.recording.now drawn.names.now drawn.numbers.now drawn.rest.now c.args.core)
    c.loop-i.i _ _ _ c.loop-i.invariant c.in_ok-put_node_of_core.ensures

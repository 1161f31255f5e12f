use Rattle.drawing.specs.Ranks.{top_of_core}
use Rattle.texts.specs.TextLaws.{next_text}
use Rattle.drawing.proofs.ranks.put_top_nodes.Goals as goal

pub loop-core-preserved : goal.loop-core-preserved
loop-core-preserved c =
    next_text (top_of_core c.args.recording.now c.args.numbers.now c.args.layout) c.loop-core.core _ _ _
    c.loop-core.invariant (rw (← c.first_on_core.ensures) c.in_ok-put_top_node.ensures)

use Rattle.drawing.specs.Nodes.{cluster_text}
use Rattle.texts.specs.TextLaws.{four_last}
use Rattle.drawing.proofs.nodes.put_cluster.Goals as goal

pub returns : goal.returns
unfolding cluster_text
returns c = rw (← c.first_on_core.ensures, c.is_none.ensures, c.if-is_none.false)
    (four_last _ _ _ _ _ _ _ _ _ _ c.in_ok-write.ensures c.in_ok-put_head.ensures c.in_ok-put_nodes.ensures
    c.put_text.ensures)

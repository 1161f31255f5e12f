use Rattle.drawing.specs.Drawing.{nodes_text}
use Rattle.texts.specs.TextLaws.{four_last}
use Rattle.drawing.proofs.drawing.put_picture_nodes.Goals as goal

pub returns : goal.returns
unfolding nodes_text
returns c = four_last _ _ _ _ _ _ _ _ _ _ c.in_ok-put_text.ensures c.in_ok-put_clusters.ensures
    c.in_ok-put_top.ensures c.put_ranks.ensures

use Rattle.texts.specs.TextLaws.{three_last}
use Rattle.drawing.proofs.ranks.put_top.Goals as goal

pub returns : goal.returns
returns c = three_last _ _ _ _ _ _ _ _ c.in_ok-put_text.ensures c.in_ok-put_top_nodes.ensures
    c.put_text-2.ensures

use Rattle.texts.specs.TextLaws.{two_last, three_last}
use Rattle.drawing.proofs.drawing.put_drawing.Goals as goal

pub returns : goal.returns
returns c = rw (← c.layout_of-layout.ensures)
    (three_last _ _ _ _ _ _ _ _ c.in_ok-put_picture_nodes.ensures c.in_ok-put_thin.ensures
    (two_last _ _ _ _ _ _ c.in_ok-put_bold.ensures c.put_text.ensures))

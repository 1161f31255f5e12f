use Rattle.texts.specs.TextLaws.{four_last}
use Rattle.drawing.proofs.edge_lines.put_thin_lines.Goals as goal

pub returns : goal.returns
returns c = rw (← c.po_edge.ensures, ← c.rf_edge.ensures, ← c.co_edge.ensures, ← c.fr_edge.ensures)
    (four_last _ _ _ _ _ _ _ _ _ _ c.in_ok-put_po_lines.ensures c.in_ok-put_thin_line.ensures
    c.in_ok-put_thin_line-2.ensures c.put_thin_line-3.ensures)

use Rattle.std.proofs.lemmas.List.{take_more}
use Rattle.drawing.specs.declared.drawn.Weight.TheVariants.{Bold}
use Rattle.drawing.specs.Drawing.{edge_line}
use Rattle.texts.specs.TextLaws.{next_item}
use Rattle.drawing.proofs.edge_lines.put_bold.Goals as goal

pub loop-edge-preserved : goal.loop-edge-preserved
loop-edge-preserved c =
    next_item (edge_line c.args.numbers.now c.args.layout Bold) c.args.bold.now c.loop-edge.edge-index _ _ _ _
    (take_more c.args.bold.now c.loop-edge.edge-index _ c.loop-edge-test.true) c.loop-edge.invariant
    c.in_ok-put_edge_line.ensures

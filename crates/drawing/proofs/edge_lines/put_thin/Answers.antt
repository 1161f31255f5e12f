use Rattle.drawing.specs.Drawing.{thin_lines}
use Rattle.texts.specs.TextLaws.{next_text}
use Rattle.drawing.proofs.edge_lines.put_thin.Goals as goal

pub loop-event-preserved : goal.loop-event-preserved
loop-event-preserved c =
    next_text (thin_lines c.args.drawn.now.rest.now c.args.drawn.now.numbers.now c.args.layout c.args.bold.now)
    c.loop-event.event _ _ _ c.loop-event.invariant c.in_ok-put_thin_lines.ensures

use Rattle.std.proofs.Common.{◌≡◌, ◌++◌}
use Rattle.drawing.specs.Drawing.{thin_lines}
use Rattle.texts.specs.Below.{texts_below}
use Rattle.drawing.proofs.edge_lines.put_thin.Given as goal

abbrev pub invariant-loop-event : goal.invariant-loop-event
invariant-loop-event l = l.out.items ≡ l.fn.out.items
    ++ texts_below (thin_lines l.drawn.rest.now l.drawn.numbers.now l.layout l.bold) l.event

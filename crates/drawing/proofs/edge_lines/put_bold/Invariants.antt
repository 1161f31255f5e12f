use Rattle.std.proofs.Common.{◌≡◌, ◌++◌, take}
use Rattle.std.specs.List.{flat_map}
use Rattle.drawing.specs.declared.drawn.Weight.TheVariants.{Bold}
use Rattle.drawing.specs.Drawing.{edge_line}
use Rattle.drawing.proofs.edge_lines.put_bold.Given as goal

abbrev pub invariant-loop-edge : goal.invariant-loop-edge
invariant-loop-edge l = l.out.items ≡ l.fn.out.items
    ++ flat_map (edge_line l.numbers l.layout Bold) (take l.edge-index l.bold)

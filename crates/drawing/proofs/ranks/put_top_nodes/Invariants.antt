use Rattle.std.proofs.Common.{◌≡◌, ◌++◌}
use Rattle.texts.specs.Below.{texts_below}
use Rattle.drawing.specs.Ranks.{top_of_core}
use Rattle.drawing.proofs.ranks.put_top_nodes.Given as goal

abbrev pub invariant-loop-core : goal.invariant-loop-core
invariant-loop-core l = l.out.items ≡ l.fn.out.items
    ++ texts_below (top_of_core l.recording l.numbers l.layout) l.core

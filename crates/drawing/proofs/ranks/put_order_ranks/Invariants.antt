use Rattle.std.proofs.Common.{◌≡◌, ◌++◌}
use Rattle.texts.specs.Below.{texts_below}
use Rattle.drawing.specs.Ranks.{core_ranks}
use Rattle.drawing.proofs.ranks.put_order_ranks.Given as goal

abbrev pub invariant-loop-core : goal.invariant-loop-core
invariant-loop-core l = l.out.items ≡ l.fn.out.items
    ++ texts_below (core_ranks l.recording l.numbers l.order) l.core

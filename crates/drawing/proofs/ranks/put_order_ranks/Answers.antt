use Rattle.drawing.specs.Ranks.{core_ranks}
use Rattle.texts.specs.TextLaws.{next_text}
use Rattle.drawing.proofs.ranks.put_order_ranks.Goals as goal

pub loop-core-preserved : goal.loop-core-preserved
loop-core-preserved c =
    next_text (core_ranks c.args.recording.now c.args.numbers.now c.args.order.now) c.loop-core.core _ _ _
    c.loop-core.invariant c.in_ok-put_core_ranks.ensures

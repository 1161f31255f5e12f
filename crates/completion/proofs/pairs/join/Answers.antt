use Rattle.std.proofs.Common.{◌∙◌}
use Rattle.completion.proofs.pairs.join.Goals as goal

pub loop-e-preserved : goal.loop-e-preserved
loop-e-preserved c = record {
  square = c.join_one.ensures.square;
  size = c.join_one.ensures.size ∙ c.loop-e.invariant.size;
  shown = λ v old later. c.join_one.ensures.shown v (c.loop-e.invariant.shown v old later) later;
}

use Rattle.std.proofs.Common.{refl}
use Rattle.cycles.specs.Closing.{Meets}
use Rattle.cycles.proofs.Loops.{one_more}
use Rattle.cycles.proofs.closing.first_open.Goals as goal

pub loop-i-preserved : goal.loop-i-preserved
loop-i-preserved c =
    one_more (λ j. Meets c.args.words.now j) c.loop-i.i c.loop-i.invariant (c.if-not-meets.ensures.0 refl)

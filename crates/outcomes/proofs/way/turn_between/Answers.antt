use Rattle.std.proofs.Common.{arith}
use Rattle.outcomes.proofs.Ways.{none_at_all}
use Rattle.outcomes.proofs.way.turn_between.Goals as goal

pub returns-clause-none : goal.returns-clause-none
returns-clause-none c = none_at_all c.args.program.now.cores c.args.from.now c.args.to.now
    (λ move core inside. c.loop-core.invariant move core (omega (
      arith,
      inside,
      c.loop-core-test.false,
      c.cores-core-end.ensures.count,
    )))

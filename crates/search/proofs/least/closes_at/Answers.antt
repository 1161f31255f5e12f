use Rattle.std.proofs.Common.{arith}
use Rattle.search.proofs.least.closes_at.Goals as goal

pub returns : goal.returns
returns c = (
  λ h. cc,
  λ at. absurd (c.loop-from.invariant at.0
      (omega (arith, c.requires, (c.sound.ensures.within at.0 c.args.v at.1).0)) at.1 at.2),
)

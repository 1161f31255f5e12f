use Rattle.std.proofs.Common.{arith}
use Rattle.values.proofs.Lawful.{sources_all}
use Rattle.values.proofs.values.Values.first_without_source.Goals as goal

pub returns : goal.returns
returns c = sources_all c.args.self.now c.requires (λ e at. c.loop-number.invariant e
    (omega (arith, at, c.len-number-end.ensures, c.loop-number-test.false)))

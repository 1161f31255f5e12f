use Rattle.std.proofs.Common.{arith}
use Rattle.values.proofs.Lawful.{values_all}
use Rattle.values.proofs.values.Values.first_without_value.Goals as goal

pub returns : goal.returns
returns c = values_all c.args.self.now (λ e at. c.loop-number.invariant e
    (omega (arith, at, c.len-number-end.ensures, c.loop-number-test.false)))

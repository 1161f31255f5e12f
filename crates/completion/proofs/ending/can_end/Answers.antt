use Rattle.std.proofs.Common.{arith}
use Rattle.completion.proofs.Alone.{write_inside}
use Rattle.completion.proofs.Fed.{true_not}
use Rattle.completion.proofs.ending.can_end.Goals as goal

pub returns-clause-holds : goal.returns-clause-holds
returns-clause-holds c holds w writes =
    let inside = write_inside c.args.values.now c.args.table.now w c.args.address c.requires.table writes.writes in
    absurd (c.loop-w.invariant.none (true_not c.loop-w.at_all holds) w
    (omega (arith, inside, c.loop-w-test.false, c.loop-w.auto.w-end)) writes)

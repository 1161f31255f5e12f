use Rattle.std.proofs.Common.{arith}
use Rattle.completion.proofs.Alone.{write_inside}
use Rattle.completion.proofs.only.first_source.Goals as goal

pub returns : goal.returns
returns c w may =
    let inside = write_inside c.args.values.now c.args.table.now w may.address c.requires.table may.gives.0 in
    c.loop-w.invariant w (omega (arith, inside, c.loop-w-test.false, c.loop-w.auto.w-end)) may

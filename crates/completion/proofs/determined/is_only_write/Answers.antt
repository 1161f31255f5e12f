use Rattle.std.proofs.Common.{arith}
use Rattle.completion.proofs.Alone.{write_inside}
use Rattle.completion.proofs.determined.is_only_write.Goals as goal

pub returns-clause-holds : goal.returns-clause-holds
returns-clause-holds c holds a u ours theirs =
    let inside = write_inside c.args.values.now c.args.table.now u a c.requires.table theirs in
    c.loop-u.invariant a u (omega (arith, inside, c.loop-u-test.false, c.loop-u.auto.u-end)) ours theirs

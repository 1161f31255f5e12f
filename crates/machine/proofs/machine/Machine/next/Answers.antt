use Rattle.std.proofs.Common.{arith, ◌<◌, length}
use Rattle.machine.proofs.Parts.{few}
use Rattle.machine.proofs.machine.Machine.next.Goals as goal

pub next-requires : goal.next-requires
next-requires c =
    let there : c.args.core < length c.self.inside.program.cores =
    omega (arith, c.cores.ensures.count, c.if-core-cores.false) in
    few c.self.invariant.sound there c.index.ensures c.ops.ensures

use Rattle.std.proofs.Common.{arith}
use Rattle.program.proofs.Soundness.{cores_within}
use Rattle.program.proofs.program.Program.sound.Goals as goal

pub returns-clause-within : goal.returns-clause-within
returns-clause-within c = rw (← c.self.view_is)
    (cores_within _ 0 _ _ c.self.invariant.numbered (omega arith))

pub returns-clause-few : goal.returns-clause-few
returns-clause-few c = rw (← c.self.view_is) c.self.invariant.few_ops

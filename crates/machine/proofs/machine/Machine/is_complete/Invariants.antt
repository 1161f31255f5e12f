use Rattle.std.proofs.Common.{◌<◌, ℕ}
use Rattle.machine.specs.State.{IsDone}
use Rattle.machine.proofs.machine.Machine.is_complete.Given as goal

abbrev pub invariant-loop-core : goal.invariant-loop-core
invariant-loop-core l = (c : ℕ) → c < l.core → IsDone l.fn.self.program.cores l.fn.self.state c

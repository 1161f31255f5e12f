use Rattle.std.proofs.Common.{◌≡◌, ◌<◌, ℕ, slice_index_or}
use Rattle.program.specs.declared.op.Op.{Op}
use Rattle.program.proofs.same.are_same_ops.Given as goal

abbrev pub invariant-loop-i : goal.invariant-loop-i
invariant-loop-i l = (j : ℕ) (d : Op) → j < l.i → slice_index_or l.a j d ≡ slice_index_or l.b j d

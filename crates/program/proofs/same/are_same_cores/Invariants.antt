use Rattle.std.proofs.Common.{◌≡◌, ◌<◌, ℕ, List, slice_index_or}
use Rattle.program.specs.declared.op.Op.{Op}
use Rattle.program.proofs.same.are_same_cores.Given as goal

abbrev pub invariant-loop-i : goal.invariant-loop-i
invariant-loop-i l = (j : ℕ) (d : List Op) → j < l.i → slice_index_or l.first j d ≡ slice_index_or l.second j
    d

use Rattle.std.proofs.Common.{◌≡◌, take}
use Rattle.program.proofs.op.copies_of.Given as goal

abbrev pub invariant-loop-core : goal.invariant-loop-core
invariant-loop-core l = l.copies.items ≡ take l.core-index l.cores

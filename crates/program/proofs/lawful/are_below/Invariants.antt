use Rattle.std.proofs.Common.{◌≡◌, nat_lt, drop}
use Rattle.program.specs.Parts.{op_count}
use Rattle.program.proofs.lawful.are_below.Given as goal

abbrev pub invariant-loop-core : goal.invariant-loop-core
invariant-loop-core l = nat_lt (op_count (drop l.core-index l.cores)) l.room
    ≡ nat_lt (op_count l.initial.cores) l.fn.limit

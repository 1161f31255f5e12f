use Rattle.std.proofs.Common.{◌≡◌, drop, get_or}
use Rattle.program.specs.declared.op.Op.TheVariants.{Fence}
use Rattle.recording.specs.Execution.{placed_from}
use Rattle.program_events.specs.Operations.{placed_op}
use Rattle.reduction.proofs.programs.op_at.Given as goal

abbrev pub invariant-loop-list : goal.invariant-loop-list
invariant-loop-list l = (get_or (placed_from l.list-index (drop l.list-index l.lists)) l.rest (0, Fence)).1
    ≡ (placed_op l.lists l.number).1

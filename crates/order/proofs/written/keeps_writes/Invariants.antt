use Rattle.std.proofs.Common.{◌<◌, ℕ}
use Rattle.recording.specs.Order.{Before}
use Rattle.recording.specs.Execution.{write_list}
use Rattle.order.proofs.written.keeps_writes.Given as goal

abbrev pub invariant-loop-address : goal.invariant-loop-address
invariant-loop-address l = (a e f : ℕ) → a < l.address → Before (write_list l.recording a) e f
    → Before l.order e f

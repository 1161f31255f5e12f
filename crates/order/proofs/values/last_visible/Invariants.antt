use Rattle.std.proofs.Common.{slice_index}
use Rattle.order.proofs.Visible.{IsLastSoFar}
use Rattle.order.proofs.values.last_visible.Given as goal

abbrev pub invariant-loop-i : goal.invariant-loop-i
invariant-loop-i l = IsLastSoFar l.recording l.order (slice_index l.order l.at) l.address l.i l.last

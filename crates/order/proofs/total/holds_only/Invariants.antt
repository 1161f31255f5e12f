use Rattle.std.proofs.Common.{◌<◌, ℕ, slice_index}
use Rattle.recording.specs.Execution.{event_count}
use Rattle.order.proofs.total.holds_only.Given as goal

abbrev pub invariant-loop-i : goal.invariant-loop-i
invariant-loop-i l = (i : ℕ) → i < l.i → slice_index l.order i < event_count l.recording

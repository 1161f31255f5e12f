use Rattle.std.proofs.Common.{◌≡◌, ◌<◌, ◌+◌, ℕ, slice_index}
use Rattle.recording.specs.Event.{value_written}
use Rattle.recording.specs.Execution.{event_at}
use Rattle.cycles.proofs.checking.are_written.Given as goal

abbrev pub invariant-loop-i : goal.invariant-loop-i
invariant-loop-i l = (i : ℕ) → i < l.i → value_written (event_at l.recording (slice_index l.list i)) ≡ i + 1

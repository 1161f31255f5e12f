use Rattle.std.proofs.Common.{◌≡◌, ◌<◌, ℕ, length, get_or}
use Rattle.recording.specs.Event.{value_read}
use Rattle.recording.specs.Execution.{event_at}
use Rattle.outcomes.proofs.recorded.reads_of.Given as goal

abbrev pub invariant-loop-number : goal.invariant-loop-number
invariant-loop-number l = record {
  size : length l.reads.items ≡ l.number;
  reads : (e : ℕ) → e < l.number → get_or l.reads.items e 0 ≡ value_read (event_at l.recording e);
}

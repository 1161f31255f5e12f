use Rattle.std.proofs.Common.{◌≡◌, ◌<◌, ℕ, Some, None, get_or}
use Rattle.recording.specs.Execution.{Reads}
use Rattle.values.specs.Refused.{events_alone}
use Rattle.completion.proofs.room.has_reads.Given as goal

abbrev pub invariant-loop-e : goal.invariant-loop-e
invariant-loop-e l = (e w : ℕ) → e < l.e → get_or l.known e None ≡ Some (Some w)
    → (a : ℕ) × Reads (events_alone l.values) e a

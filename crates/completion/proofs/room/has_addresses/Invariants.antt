use Rattle.std.proofs.Common.{◌<◌, ◌⊎◌, ℕ, length}
use Rattle.recording.specs.Execution.{Reads, Writes}
use Rattle.values.specs.Refused.{events_alone}
use Rattle.completion.proofs.room.has_addresses.Given as goal

abbrev pub invariant-loop-e : goal.invariant-loop-e
invariant-loop-e l = (e a : ℕ) → e < l.e → Reads (events_alone l.values) e a ⊎ Writes (events_alone l.values) e a
    → a < length l.values.initial

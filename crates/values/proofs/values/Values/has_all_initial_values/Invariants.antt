use Rattle.std.proofs.Common.{◌<◌, ◌⊎◌, ℕ, length}
use Rattle.recording.specs.Execution.{Reads, Writes}
use Rattle.values.specs.Refused.{events_alone}
use Rattle.values.proofs.values.Values.has_all_initial_values.Given as goal

abbrev pub invariant-loop-number : goal.invariant-loop-number
invariant-loop-number l = (e : ℕ) → e < l.number → (a : ℕ)
    → Reads (events_alone l.self) e a ⊎ Writes (events_alone l.self) e a → a < length l.self.initial

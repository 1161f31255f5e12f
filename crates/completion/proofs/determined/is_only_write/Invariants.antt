use Rattle.std.proofs.Common.{◌≡◌, ◌<◌, ℕ}
use Rattle.recording.specs.Execution.{Writes}
use Rattle.values.specs.Refused.{events_alone}
use Rattle.completion.proofs.determined.is_only_write.Given as goal

abbrev pub invariant-loop-u : goal.invariant-loop-u
invariant-loop-u l = (a u : ℕ) → u < l.u → Writes (events_alone l.values) l.w a → Writes (events_alone l.values) u a
    → l.w ≡ u

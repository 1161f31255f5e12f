use Rattle.std.proofs.Common.{◌<◌, ℕ, slice_index}
use Rattle.recording.specs.Execution.{Kept}
use Rattle.order.proofs.kept.keeps_after.Given as goal

abbrev pub invariant-loop-i : goal.invariant-loop-i
invariant-loop-i l = (l.at < l.i) × ((i : ℕ) → l.at < i → i < l.i
    → ¬ Kept l.recording (slice_index l.order i) (slice_index l.order l.at))

use Rattle.std.proofs.Common.{◌<◌, ℕ, length, slice_index}
use Rattle.recording.specs.Execution.{Kept}
use Rattle.order.proofs.kept.keeps_order.Given as goal

abbrev pub invariant-loop-at : goal.invariant-loop-at
invariant-loop-at l = (at i : ℕ) → at < l.at → at < i → i < length l.order
    → ¬ Kept l.recording (slice_index l.order i) (slice_index l.order at)

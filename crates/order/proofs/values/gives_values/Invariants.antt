use Rattle.std.proofs.Common.{◌<◌, ℕ, slice_index}
use Rattle.recording.specs.Execution.{Reads, source_of}
use Rattle.recording.specs.Tso.{IsLastVisible}
use Rattle.order.proofs.values.gives_values.Given as goal

abbrev pub invariant-loop-at : goal.invariant-loop-at
invariant-loop-at l = (at a : ℕ) → at < l.at → Reads l.recording (slice_index l.order at) a
    → IsLastVisible l.recording l.order (slice_index l.order at) a
    (source_of l.recording (slice_index l.order at))

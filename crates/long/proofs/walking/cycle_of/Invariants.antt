use Rattle.std.proofs.Common.{◌≡◌, ◌≢◌, ◌<◌, ◌-◌, ℕ, length, slice_index}
use Rattle.long.proofs.walking.cycle_of.Given as goal

abbrev pub invariant-loop-i : goal.invariant-loop-i
invariant-loop-i l = record {
  size : length l.cycle.items ≡ l.i;
  each : (k : ℕ) → k < length l.cycle.items
      → (slice_index l.cycle.items k ≡ slice_index l.stack (length l.stack - 1 - k))
      × (slice_index l.cycle.items k ≢ l.first);
}

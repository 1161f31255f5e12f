use Rattle.std.proofs.Common.{◌≡◌, ◌≤◌, ◌<◌, ◌+◌, ◌⊎◌, ℕ, length, slice_index}
use Rattle.recording.specs.Order.{times}
use Rattle.long.specs.Chains.{rest_from, times_kept}
use Rattle.long.proofs.open.put_seconds.Given as goal

abbrev pub invariant-chain : goal.invariant-chain
invariant-chain l = record {
  low : l.head ≤ length l.pairs.links;
  size : length l.befores ≡ length l.fn.befores;
  part : (f : ℕ) → times (rest_from l.pairs l.head) f ≤ times_kept l.pairs l.event f;
  here : (f : ℕ) → 0 < times_kept l.pairs l.event f
      → (0 < times (rest_from l.pairs l.head) f) ⊎ (slice_index l.befores f ≡ l.event + 1);
  others : (f : ℕ) → times_kept l.pairs l.event f ≡ 0 → slice_index l.befores f ≡ slice_index l.fn.befores f;
}

abbrev pub decreases-chain : goal.decreases-chain
decreases-chain l = l.head

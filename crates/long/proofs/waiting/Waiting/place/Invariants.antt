use Rattle.std.proofs.Common.{◌≡◌, ◌≤◌, ◌+◌, ℕ, length, slice_index}
use Rattle.recording.specs.Order.{times}
use Rattle.long.specs.Chains.{rest_from, times_kept}
use Rattle.long.proofs.waiting.Waiting.place.Given as goal

abbrev pub invariant-chain : goal.invariant-chain
invariant-chain l = record {
  low : l.head ≤ length l.pairs.links;
  size : length l.self ≡ length l.fn.self;
  part : (f : ℕ) → times (rest_from l.pairs l.head) f ≤ times_kept l.pairs l.event f;
  counts : (f : ℕ) → slice_index l.self f + times_kept l.pairs l.event f
      ≡ slice_index l.fn.self f + times (rest_from l.pairs l.head) f;
}

abbrev pub decreases-chain : goal.decreases-chain
decreases-chain l = l.head

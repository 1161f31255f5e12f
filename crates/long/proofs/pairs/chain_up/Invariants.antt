use Rattle.std.proofs.Common.{◌≡◌, ◌≤◌, ◌<◌, ◌+◌, [], ℕ, take, length, slice_index}
use Rattle.order.specs.Open.{waits}
use Rattle.long.specs.Chains.{times_listed}
use Rattle.long.proofs.Chained.{AreChained}
use Rattle.long.proofs.pairs.chain_up.Given as goal

abbrev pub invariant-loop-place : goal.invariant-loop-place
invariant-loop-place l = record {
  chained : AreChained l.fn.list l.place l.heads l.list;
  size : length l.heads ≡ length l.fn.heads;
  room : length l.counts ≡ length l.fn.heads;
  waiting : (f : ℕ) → f < length l.fn.heads → slice_index l.counts f
      ≡ waits (times_listed (take l.place l.fn.list)) [] (length l.fn.heads) f + 1;
  low : (f : ℕ) → slice_index l.counts f ≤ l.place + 1;
}

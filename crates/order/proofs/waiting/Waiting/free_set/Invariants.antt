use Rattle.std.proofs.Common.{◌≡◌, ◌<◌, ◌≤◌, ◌↔◌, ℕ, true, false, get_or, length}
use Rattle.bitrow.specs.Bits.{is_in}
use Rattle.order.proofs.waiting.Waiting.free_set.Given as goal

abbrev pub invariant-loop-event : goal.invariant-loop-event
invariant-loop-event l = record {
  size : length l.free ≡ length l.counts;
  below : (e : ℕ) → e < l.event → (is_in l.free e ≡ true) ↔ (get_or l.counts e 0 ≡ 1);
  above : (e : ℕ) → l.event ≤ e → is_in l.free e ≡ false;
}

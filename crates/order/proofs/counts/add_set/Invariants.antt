use Rattle.std.proofs.Common.{◌≡◌, ◌<◌, ◌≤◌, ◌+◌, ◌-◌, ℕ, get_or, length}
use Rattle.bitrow.specs.Bits.{is_in}
use Rattle.order.specs.Open.{one_if}
use Rattle.order.proofs.counts.add_set.Given as goal

abbrev pub invariant-loop-event : goal.invariant-loop-event
invariant-loop-event l = record {
  row : l.events.row ≡ l.set;
  within : l.events.from ≤ length l.counts;
  size : length l.counts ≡ length l.fn.counts;
  done : (f : ℕ) → f < l.events.from → get_or l.counts f 0 ≡ get_or l.fn.counts f 0 + one_if (is_in l.set f);
  kept : (f : ℕ) → l.events.from ≤ f → get_or l.counts f 0 ≡ get_or l.fn.counts f 0;
}

abbrev pub decreases-loop-event : goal.decreases-loop-event
decreases-loop-event l = length l.counts - l.events.from

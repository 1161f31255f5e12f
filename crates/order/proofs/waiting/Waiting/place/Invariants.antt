use Rattle.std.proofs.Common.{◌≡◌, ◌<◌, ◌≤◌, ◌-◌, ℕ, get_or, length}
use Rattle.bitrow.specs.Bits.{is_in}
use Rattle.order.specs.Open.{one_if}
use Rattle.order.proofs.waiting.Waiting.place.Given as goal

abbrev pub invariant-loop-other : goal.invariant-loop-other
invariant-loop-other l = record {
  row : l.others.row ≡ l.initial.others.row;
  within : l.others.from ≤ length l.self;
  size : length l.self ≡ length l.fn.self;
  done : (f : ℕ) → f < l.others.from → get_or l.self f 0
      ≡ get_or l.fn.self f 0 - one_if (is_in l.initial.others.row f);
  kept : (f : ℕ) → l.others.from ≤ f → get_or l.self f 0 ≡ get_or l.fn.self f 0;
}

abbrev pub decreases-loop-other : goal.decreases-loop-other
decreases-loop-other l = length l.self - l.others.from

use Rattle.std.proofs.Common.{◌<◌, ◌≤◌, ◌-◌, length, slice_index}
use Rattle.relations.proofs.places.core_at.Given as goal

abbrev pub invariant-halves : goal.invariant-halves
invariant-halves l = record {
  less : l.low < l.high;
  within : l.high < length l.starts;
  first : slice_index l.starts l.low ≤ l.number;
  next : l.number < slice_index l.starts l.high;
}

abbrev pub decreases-halves : goal.decreases-halves
decreases-halves l = l.high - l.low

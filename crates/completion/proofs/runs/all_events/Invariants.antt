use Rattle.std.proofs.Common.{◌≡◌, ◌<◌, ℕ, true, length}
use Rattle.bitrow.specs.Bits.{is_in}
use Rattle.completion.proofs.runs.all_events.Given as goal

abbrev pub invariant-loop-e : goal.invariant-loop-e
invariant-loop-e l = record {
  size : length l.row ≡ l.count;
  all : (j : ℕ) → j < l.e → is_in l.row j ≡ true;
}

use Rattle.std.proofs.Common.{◌≡◌, ◌<◌, ℕ, false, [], length, get_or}
use Rattle.bitrow.specs.Bits.{is_in}
use Rattle.completion.proofs.pairs.no_pairs.Given as goal

abbrev pub invariant-loop : goal.invariant-loop
invariant-loop l = record {
  count : length l.rows.items ≡ l.counter;
  none : (i j : ℕ) → is_in (get_or l.rows.items i []) j ≡ false;
  size : (i : ℕ) → i < length l.rows.items → length (get_or l.rows.items i []) ≡ l.count;
}

use Rattle.std.proofs.Common.{◌≡◌, ℕ, true, length}
use Rattle.bitrow.specs.Bits.{is_in}
use Rattle.values.specs.Values.{Values}
use Rattle.completion.specs.Inferred.{AreShown, IsShown}
use Rattle.completion.specs.Pairs.{IsSquare}
use Rattle.completion.proofs.pairs.join.Given as goal

abbrev pub invariant-loop-e : goal.invariant-loop-e
invariant-loop-e l = record {
  square : IsSquare l.rows;
  size : length l.rows ≡ length l.fn.rows;
  shown : (v : Values) → AreShown v l.fn.rows → ((f : ℕ) → is_in l.later f ≡ true → IsShown v l.middle f)
      → AreShown v l.rows;
}

use Rattle.std.proofs.Common.{◌≡◌, length}
use Rattle.values.specs.Values.{Values}
use Rattle.completion.specs.Inferred.{AreShown}
use Rattle.completion.specs.Pairs.{IsSquare}
use Rattle.completion.proofs.pairs.close.Given as goal

abbrev pub invariant-loop-middle : goal.invariant-loop-middle
invariant-loop-middle l = record {
  square : IsSquare l.rows;
  size : length l.rows ≡ length l.fn.rows;
  shown : (v : Values) → AreShown v l.fn.rows → AreShown v l.rows;
}

use Rattle.std.proofs.Common.{◌≡◌, ◌<◌, ℕ, true, false}
use Rattle.completion.specs.Left.{IsInRow}
use Rattle.completion.specs.Part.{WritesValue}
use Rattle.completion.proofs.ending.can_end.Given as goal

abbrev pub invariant-loop-w : goal.invariant-loop-w
invariant-loop-w l = record {
  unkept : (w : ℕ) → w < l.w → WritesValue l.values l.address l.value w → ¬ IsInRow l.row w;
  none : l.at_all ≡ false → (w : ℕ) → w < l.w → ¬ WritesValue l.values l.address l.value w;
  some : l.at_all ≡ true → (w : ℕ) × WritesValue l.values l.address l.value w;
}

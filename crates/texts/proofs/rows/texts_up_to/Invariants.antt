use Rattle.std.proofs.Common.{◌≡◌, length}
use Rattle.texts.specs.NumberTexts.{AreTexts}
use Rattle.texts.proofs.rows.texts_up_to.Given as goal

abbrev pub invariant-loop-number : goal.invariant-loop-number
invariant-loop-number l = record {
  size : length l.texts.items ≡ l.number;
  texts : AreTexts l.texts.items;
}

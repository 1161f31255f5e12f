use Rattle.std.proofs.Common.{◌≡◌, ◌≤◌, ◌+◌, ◌*◌, ◌-◌, ◌++◌, length, take}
use Rattle.texts.specs.Numbers.{numbers_text}
use Rattle.texts.proofs.rows.write_texts.Given as goal

abbrev pub invariant-fours : goal.invariant-fours
invariant-fours l = record {
  within : l.i ≤ length l.labels;
  size : length l.places ≡ length l.fn.places;
  room : l.at ≤ l.start + 4 * l.i;
  text : take l.at l.places ≡ take l.start l.fn.places ++ numbers_text (take l.i l.labels);
}

abbrev pub decreases-fours : goal.decreases-fours
decreases-fours l = length l.labels - l.i

abbrev pub invariant-rest : goal.invariant-rest
invariant-rest l = record {
  within : l.i ≤ length l.labels;
  size : length l.places ≡ length l.fn.places;
  room : l.at ≤ l.start + 4 * l.i;
  text : take l.at l.places ≡ take l.start l.fn.places ++ numbers_text (take l.i l.labels);
}

abbrev pub decreases-rest : goal.decreases-rest
decreases-rest l = length l.labels - l.i

use Rattle.std.proofs.Common.{◌≡◌, ◌*◌, take}
use Rattle.texts.specs.Numbers.{numbers_text}
use Rattle.texts.proofs.rows.write_digits.Given as goal

abbrev pub invariant-loop-i : goal.invariant-loop-i
invariant-loop-i l = take (2 * l.i) l.places ≡ numbers_text (take l.i l.labels)

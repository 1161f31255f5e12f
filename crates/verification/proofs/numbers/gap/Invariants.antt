use Rattle.std.proofs.Common.{◌≡◌, ◌<◌, ℕ, false, get_or}
use Rattle.texts.specs.Decimals.{is_digit}
use Rattle.verification.proofs.numbers.gap.Given as goal

abbrev pub invariant-loop-i : goal.invariant-loop-i
invariant-loop-i l = (j : ℕ) → j < l.i → is_digit (get_or l.text j 0) ≡ false

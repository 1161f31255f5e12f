use Rattle.std.proofs.Common.{◌≡◌, ◌<◌, ◌^◌, ◌++◌, ℕ, List, decimal, length}
use Rattle.texts.proofs.DigitLemmas.{BeginsNoDigit, GoesOn}
use Rattle.texts.proofs.cursor.Cursor.number.Given as goal

-- the digits so far write the number, and those of any number that stands there go on
abbrev pub invariant-digits : goal.invariant-digits
invariant-digits l = (0 < l.n) × (l.fn.self ≡ decimal l.n ++ l.self) × ((m : ℕ) (more : List ℕ) → m < 2 ^ 64
    → BeginsNoDigit more → l.fn.self ≡ decimal m ++ more → GoesOn l.n m l.self more)

abbrev pub decreases-digits : goal.decreases-digits
decreases-digits l = length l.self

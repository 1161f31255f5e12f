-- Texts of numbers, one after the other.
use Rattle.std.specs.Prelude.{◌++◌, ℕ, zero, suc, List, []}

-- the texts of the numbers below n, one after the other
abbrev pub texts_below : (ℕ → List ℕ) → ℕ → List ℕ
texts_below f zero = []
texts_below f (suc i) = texts_below f i ++ f i

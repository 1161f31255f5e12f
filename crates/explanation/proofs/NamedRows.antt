-- Rows with words, tried one after the other.
use Rattle.std.proofs.Common.{◌≡◌, ◌∷◌, ℕ, List, Some, false, true, refl}
use Rattle.std.specs.Str.{bytes_eq}
use Rattle.explanation.specs.Diy.{named_by}

-- the first has the words
pub first_named : (words : List ℕ) (row : List ℕ × List ℕ) (rows : List (List ℕ × List ℕ))
    → bytes_eq words row.0 ≡ true → named_by (row ∷ rows) words ≡ Some row.1
first_named words row rows is = rw is refl

-- and where it has not
pub later_named : (words : List ℕ) (row : List ℕ × List ℕ) (rows : List (List ℕ × List ℕ))
    → bytes_eq words row.0 ≡ false → named_by (row ∷ rows) words ≡ named_by rows words
later_named words row rows is = rw is refl

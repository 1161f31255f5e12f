-- The texts of numbers, made before they are needed.
use Rattle.std.specs.Prelude.{◌≡◌, ◌<◌, ◌≤◌, ◌∷◌, ℕ, List, decimal, length, slice_index_or, take}
use Rattle.texts.specs.declared.rows.NumberText.{NumberText}

-- the first bytes are a space and the number, in decimal
pub record IsTextOf (n : ℕ) (t : NumberText) : Type 0 where
  pub four : length t.bytes ≡ 4
  pub within : t.size ≤ 4
  pub text : take t.size t.bytes ≡ 32 ∷ decimal n

-- the text of each number below the length stands at its place
abbrev pub AreTexts : List NumberText → Type 0
AreTexts texts = (n : ℕ) (d : NumberText) → n < length texts → IsTextOf n (slice_index_or texts n d)

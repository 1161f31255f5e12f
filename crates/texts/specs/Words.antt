-- Words of a line.
use Rattle.std.specs.Prelude.{ℕ, List, ◌==◌, Bool, nat_eq, length, take}
use Rattle.std.specs.Cmp.Lexicographic.{pointwise}

-- the byte that parts words
abbrev pub is_space : ℕ → Bool
is_space b = b == 32

-- a line that is this text
abbrev pub is_text : List ℕ → List ℕ → Bool
is_text text line = pointwise nat_eq line text

-- a line that begins with this text
abbrev pub begins : List ℕ → List ℕ → Bool
begins text line = pointwise nat_eq (take (length text) line) text

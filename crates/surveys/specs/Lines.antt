-- The lines of bytes.
use Rattle.std.specs.Prelude.{◌≡◌, ◌<◌, ◌++◌, ◌∷◌, [], ◌==◌, ℕ, Bool, List, filter, length, nat_lt}
use Rattle.std.specs.List.{slice_split}

-- the end of a line
abbrev pub is_end : ℕ → Bool
is_end byte = byte == 10

-- a line that counts
abbrev pub is_some_line : List ℕ → Bool
is_some_line line = nat_lt 0 (length line)

-- what stands between ends of lines, without the empty lines
abbrev pub lines : List ℕ → List (List ℕ)
lines bytes = filter is_some_line (slice_split is_end bytes)

-- bytes after which a line begins, whatever follows
abbrev pub IsWhole : List ℕ → Type 0
IsWhole bytes = (more : List ℕ) → lines (bytes ++ more) ≡ lines bytes ++ lines more

-- the first lines of the bytes, and what comes after them
abbrev pub IsCut : List ℕ → List (List ℕ) → List ℕ → Type 0
IsCut bytes first rest = lines bytes ≡ first ++ lines rest

-- the first line of the bytes, and what comes after its end
pub record IsSplit (bytes line rest : List ℕ) : Type 0 where
  pub cut : IsCut bytes (filter is_some_line (line ∷ [])) rest
  pub shorter : length rest < length bytes

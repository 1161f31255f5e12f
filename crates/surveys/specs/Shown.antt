-- One line of many.
use Rattle.std.specs.Prelude.{◌≡◌, ◌+◌, ◌<◌, ◌≤◌, ◌++◌, [], ℕ, List, Option, None, Some, length, slice_index_or}
use Rattle.std.specs.Io.KnownBytes.{Consumes}
use Rattle.surveys.specs.Lines.{IsWhole, lines}
use Rattle.surveys.specs.declared.showing.Sought.{Sought}
use Rattle.surveys.specs.declared.showing.Sought.TheVariants.{Found, Later}

-- the line of this number among some
abbrev pub IsLineAmong : List (List ℕ) → ℕ → List ℕ → Type 0
IsLineAmong all k line = (k < length all) × (slice_index_or all k [] ≡ line)

-- the line of this number
abbrev pub IsLineAt : List ℕ → ℕ → List ℕ → Type 0
IsLineAt bytes k line = IsLineAmong (lines bytes) k line

-- it, or that there are fewer
abbrev pub IsLineOf : List ℕ → ℕ → Option (List ℕ) → Type 0
IsLineOf bytes k None = length (lines bytes) ≤ k
IsLineOf bytes k (Some line) = IsLineAt bytes k line

-- the line of number k of the bytes that were read, or that there are fewer
pub record IsLineOfRead (left_before left_after : Option (List ℕ)) (k : ℕ) (line : Option (List ℕ)) : Type 0 where
  pub bytes : List ℕ
  pub read : Consumes left_before left_after bytes
  pub is : IsLineOf bytes k line

-- some bytes were read
abbrev pub IsReadOn : Option (List ℕ) → Option (List ℕ) → Type 0
IsReadOn left_before left_after = (bytes : List ℕ) × Consumes left_before left_after bytes

-- it, or which number it has after these bytes
abbrev pub IsSought : List ℕ → ℕ → Sought → Type 0
IsSought bytes k (Found line) = IsLineAt bytes k line.items
IsSought bytes k (Later m) = k ≡ length (lines bytes) + m

-- the line of number k of the first n bytes of a block, after which a line begins, or which number it has after them
pub record IsSoughtFirst (block rest : List ℕ) (k : ℕ) (sought : Sought) (n : ℕ) : Type 0 where
  pub front : List ℕ
  pub cut : block ≡ front ++ rest
  pub whole : IsWhole front
  pub is : IsSought front k sought
  pub size : n ≡ length front

-- of what was read so far, the first bytes, n of them, have the lines before it, and the others are in the block
pub record IsReadBeforeLine (left_before left_now : Option (List ℕ)) (block : List ℕ) (k later n : ℕ) : Type 0 where
  pub front : List ℕ
  pub whole : IsWhole front
  pub read : Consumes left_before left_now (front ++ block)
  pub before : k ≡ length (lines front) + later
  pub size : n ≡ length front

-- Sets whose numbers are taken in turn.
use Rattle.std.specs.Prelude.{◌≡◌, ◌<◌, ◌≤◌, ◌+◌, ◌*◌, ℕ, Bool, List, length, slice_index}
use Rattle.std.specs.Int.{bit_at}

-- a set, and from which number on the next one is looked for
pub record RowWalk : Type 0 where
  pub row : List Bool
  pub from : ℕ

-- the set from a number on
abbrev pub walk_of : List Bool → ℕ → RowWalk
walk_of row from = record { row = row; from = from }

-- rest has the bits of word k from one on, and no other
pub record IsRest (words : List ℕ) (k rest from : ℕ) : Type 0 where
  pub within : k ≤ length words
  pub begun : 64 * k ≤ from
  pub ended : from ≤ 64 * k + 64
  pub gone : (i : ℕ) → 64 * k + i < from → bit_at rest i ≡ 0
  pub left : (i : ℕ) → i < 64 → from ≤ 64 * k + i → bit_at rest i ≡ bit_at (slice_index words k) i

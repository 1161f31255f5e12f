-- The rows that a set names, and their union.
use Rattle.std.specs.Prelude.{◌≡◌, ◌⊎◌, ◌<◌, ◌≤◌, ℕ, Bool, true, false, List, [], length, slice_index}
use Rattle.std.specs.Prelude.{slice_index_or, ◌&&◌, not}
use Rattle.bitrow.specs.Bits.{is_in}

-- row e has f
abbrev pub Marked : List (List Bool) → ℕ → ℕ → Type 0
Marked rows e f = is_in (slice_index_or rows e []) f ≡ true

-- as many rows as columns
pub record IsBitSquare (rows : List (List Bool)) : Type 0 where
  pub each : (e : ℕ) → e < length rows → length (slice_index_or rows e []) ≡ length rows

-- no number from n on is in the set
abbrev pub IsBelow : ℕ → List Bool → Type 0
IsBelow n set = (j : ℕ) → n ≤ j → is_in set j ≡ false

-- these are the numbers of the set below n, ascending
pub record AreNumbersBelow (n : ℕ) (set : List Bool) (numbers : List ℕ) : Type 0 where
  pub few : length numbers ≤ n
  pub ascending : (i j : ℕ) → i < j → j < length numbers → slice_index numbers i < slice_index numbers j
  pub within : (i : ℕ) → i < length numbers → slice_index numbers i < n
  pub members : (i : ℕ) → i < length numbers → is_in set (slice_index numbers i) ≡ true
  pub all : (e : ℕ) → e < n → is_in set e ≡ true → (i : ℕ) × (i < length numbers) × (slice_index numbers i ≡ e)

-- these are the numbers of the set, ascending
abbrev pub AreNumbers : List Bool → List ℕ → Type 0
AreNumbers set numbers = AreNumbersBelow (length set) set numbers

-- the numbers of the set below i got the label, and the others kept theirs
pub record GetsLabel (set : List Bool) (i label : ℕ) (before after : List ℕ) : Type 0 where
  pub labelled : (e : ℕ) → e < i → is_in set e ≡ true → slice_index after e ≡ label
  pub left : (e : ℕ) → (i ≤ e) ⊎ (is_in set e ≡ false) → slice_index after e ≡ slice_index before e

-- a set has what the rows of another's numbers below i have, and nothing that no row of these numbers has
pub record IsUnion (R : ℕ → ℕ → Type 0) (set : List Bool) (i : ℕ) (union : List Bool) : Type 0 where
  pub joined : (e f : ℕ) → e < i → is_in set e ≡ true → R e f → is_in union f ≡ true
  pub only : (f : ℕ) → is_in union f ≡ true → (e : ℕ) × (is_in set e ≡ true) × R e f

-- a set has what the rows of a level of n numbers have and was not seen
abbrev pub IsNextLevel : (ℕ → ℕ → Type 0) → ℕ → List Bool → List Bool → List Bool → Type 0
IsNextLevel R n level seen next = (union : List Bool) × IsUnion R level n union
    × ((j : ℕ) → is_in next j ≡ (is_in union j && not (is_in seen j)))

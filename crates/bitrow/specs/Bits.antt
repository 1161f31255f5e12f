-- Numbers below a length as bits of words.
use Rattle.std.specs.Prelude.{◌≡◌, ◌<◌, ◌≤◌, ◌+◌, ◌*◌, ◌/◌, ◌%◌, ◌^◌, ℕ, zero, suc, Bool, true, false, Option}
use Rattle.std.specs.Prelude.{Some, None, List, [], ◌∷◌, ◌==◌, length, slice_index, slice_index_or}
use Rattle.std.specs.Int.{bit_at}

-- whether bit i of the words is 1
unfoldable pub bit_of : List ℕ → ℕ → Bool
bit_of words i = bit_at (slice_index words (i / 64)) (i % 64) == 1

-- f of each number from a on, n of them
abbrev pub listed : (ℕ → Bool) → ℕ → ℕ → List Bool
listed f a zero = []
listed f a (suc n) = f a ∷ listed f (a + 1) n

-- for each number below n whether its bit is 1
unfoldable pub members_below : List ℕ → ℕ → List Bool
members_below words n = listed (bit_of words) 0 n

-- whether a number is in the set
abbrev pub is_in : List Bool → ℕ → Bool
is_in row e = slice_index_or row e false

-- the set of the numbers whose bits are 1
unfoldable pub bits_of : List ℕ → List Bool
bits_of words = members_below words (64 * length words)

-- no bit is 1 from n on
abbrev pub IsClear : ℕ → List ℕ → Type 0
IsClear n words = (j : ℕ) → n ≤ j → bit_of words j ≡ false

-- how many words hold a set of numbers below n: 1, 2, 4 or eights
pub record IsWidth (words n : ℕ) : Type 0 where
  pub one : n ≤ 64 → words ≡ 1
  pub two : 64 < n → n ≤ 128 → words ≡ 2
  pub four : 128 < n → n ≤ 256 → words ≡ 4
  pub eights : 256 < n → words ≡ 8 * ((n + 511) / 512)

-- the words hold a set of numbers below n, which a usize counts
pub record AreWordsOf (words : List ℕ) (n : ℕ) : Type 0 where
  pub width : IsWidth (length words) n
  pub clear : IsClear n words
  pub counted : n < 2 ^ 64

-- the first bit that is 1 from one on, and none where there is none
abbrev pub IsNextBit : List ℕ → ℕ → Option ℕ → Type 0
IsNextBit words from None = (j : ℕ) → from ≤ j → bit_of words j ≡ false
IsNextBit words from (Some i) = (from ≤ i) × (bit_of words i ≡ true)
    × ((j : ℕ) → from ≤ j → j < i → bit_of words j ≡ false)

-- the least number of the set from one on, and none where there is none
abbrev pub IsNext : List Bool → ℕ → Option ℕ → Type 0
IsNext row from None = (j : ℕ) → from ≤ j → is_in row j ≡ false
IsNext row from (Some e) = (from ≤ e) × (e < length row) × (is_in row e ≡ true)
    × ((j : ℕ) → from ≤ j → j < e → is_in row j ≡ false)

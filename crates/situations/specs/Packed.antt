-- Lists of equally many numbers, packed into blocks.
use Rattle.std.specs.Prelude.{◌≡◌, ◌<◌, ◌≤◌, ◌+◌, ◌-◌, ◌*◌, ◌/◌, ◌%◌, ◌^◌, ◌++◌, ◌∷◌, ℕ, List, [], drop, length, map}
use Rattle.std.specs.Prelude.{slice_index_or, take}
use Rattle.std.specs.List.{range_with_len}
use Rattle.situations.specs.declared.block.Block.{Block}
use Rattle.situations.specs.declared.block.Block.TheVariants as block

-- the numbers of a block
abbrev pub numbers_in : Block → List ℕ
numbers_in (block.Bytes bytes) = bytes.items
numbers_in (block.Codes coded) = coded
numbers_in (block.Words words) = words.items

-- lists of numbers, and how many numbers each has
pub record PackedLists : Type 0 where
  pub width : ℕ
  pub lists : List (List ℕ)

-- the list with number i, of which a block has 64
abbrev pub list_at : ℕ → List (List ℕ) → ℕ → List ℕ
list_at w blocks i = take w (drop (w * (i % 64)) (slice_index_or blocks (i / 64) []))

-- the first n lists, of which the last ones are in no block yet
abbrev pub lists_in : ℕ → ℕ → List (List ℕ) → List ℕ → List (List ℕ)
lists_in w n blocks last = map (list_at w (blocks ++ last ∷ [])) (range_with_len 0 n)

-- the blocks hold 64 lists each, and the rest of n lists is in no block yet, 64 at most
pub record AreFull (w n : ℕ) (blocks : List (List ℕ)) (last : List ℕ) : Type 0 where
  pub narrow : w < 2 ^ 32
  pub short : n ≤ 2 ^ 32
  pub many : 64 * length blocks ≤ n
  pub few : n ≤ 64 * length blocks + 64
  pub whole : (k : ℕ) → k < length blocks → length (slice_index_or blocks k []) ≡ w * 64
  pub rest : length last ≡ w * (n - 64 * length blocks)

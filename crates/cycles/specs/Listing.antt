-- Critical cycles, each once: as chains of blocks, of which each rotation but one is left out.
use Rattle.std.specs.Prelude.{◌-◌, ◌/◌, ◌==◌, ◌++◌, ◌∷◌, ◌&&◌, ◌||◌, [], ℕ, zero, suc, Bool, true, false, not, List}
use Rattle.std.specs.Prelude.{Option, Some, None, drop, if◌then◌else◌, length, nat_lt, slice_index, take}
use Rattle.std.specs.List.{flat_map, list_all, range_with_len}
use Rattle.std.specs.Cmp.Lexicographic.{slice_cmp}
use Rattle.std.specs.declared.cmp.Ordering.{Ordering}
use Rattle.std.specs.declared.cmp.Ordering.TheVariants.{Less}
use Rattle.std.specs.Ordering.{nat_cmp}
use Rattle.cycles.specs.Blocks.{block_end, block_events, block_start, block_text, is_alone}

-- Chains

-- blocks of which each ends with what the next starts with, and how many events there may be after them
pub record Chain : Type 0 where
  pub blocks : List ℕ
  pub left : ℕ

-- block b starts with what the last of these ends with
abbrev pub follows : List ℕ → ℕ → Bool
follows [] b = true
follows (a ∷ bs) b = block_end (slice_index (a ∷ bs) (length (a ∷ bs) - 1)) == block_start b

-- a chain with one block more, if it follows and there may be so many events
abbrev pub with_block : Chain → ℕ → Option Chain
with_block c b =
    if not (follows c.blocks b) || nat_lt c.left (block_events b) then None
    else Some (record { blocks = c.blocks ++ b ∷ []; left = c.left - block_events b })

abbrev pub listed_if : {A : Type 0} → Option A → List A
listed_if None = []
listed_if (Some x) = x ∷ []

-- a chain with each block more that it can have
abbrev pub extended : Chain → List Chain
extended c = flat_map (λ b. listed_if (with_block c b)) (range_with_len 0 17)

-- no block, and n events
abbrev pub start_chain : ℕ → Chain
start_chain n = record { blocks = []; left = n }

-- the chains of k blocks with at most n events
abbrev pub chains : ℕ → ℕ → List Chain
chains n zero = start_chain n ∷ []
chains n (suc k) = flat_map extended (chains n k)

-- Cycles

-- the last block ends with what the first starts with
abbrev pub closes : List ℕ → Bool
closes [] = false
closes (b ∷ bs) = follows (b ∷ bs) b

-- blocks from place i on, and then those before it
abbrev pub rotated : List ℕ → ℕ → List ℕ
rotated bs i = drop i bs ++ take i bs

abbrev pub is_first : Ordering → Bool
is_first Less = true
is_first other = false

-- the rotation at place i does not come before the blocks in dictionary order
abbrev pub is_passed : List ℕ → ℕ → Bool
is_passed bs i = not (is_first (slice_cmp nat_cmp (rotated bs i) bs))

-- none does
abbrev pub is_least : List ℕ → Bool
is_least bs = list_all (is_passed bs) (range_with_len 0 (length bs))

-- one block is a cycle where it is one alone, and more are where none is
abbrev pub is_whole : List ℕ → Bool
is_whole [] = false
is_whole (b ∷ []) = is_alone b
is_whole (b ∷ c ∷ bs) = not (is_alone b)

-- a chain is a cycle, and the least of its rotations
abbrev pub is_listed : Chain → Bool
is_listed c = is_whole c.blocks && closes c.blocks && is_least c.blocks

-- the blocks of a chain that is listed
abbrev pub cycle_of : Chain → List (List ℕ)
cycle_of c = if is_listed c then c.blocks ∷ [] else []

-- the cycles with at most n events: each block has two at least
abbrev pub listed : ℕ → List (List ℕ)
listed n = flat_map (λ k. flat_map cycle_of (chains n (suc k))) (range_with_len 0 (n / 2))

-- Texts

abbrev pub with_space : List ℕ → List ℕ
with_space [] = []
with_space (b ∷ text) = (b ∷ text) ++ 32 ∷ []

-- a text, and the words of blocks after it
abbrev pub text_from : List ℕ → List ℕ → List ℕ
text_from text [] = text
text_from text (b ∷ bs) = text_from (with_space text ++ block_text b) bs

-- the words of a cycle
abbrev pub cycle_text : List ℕ → List ℕ
cycle_text bs = text_from [] bs

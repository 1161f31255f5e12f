-- The pieces of critical cycles.
use Rattle.std.specs.Prelude.{◌∷◌, [], ℕ, Bool, List, codes, nat_lt, slice_index_or}

-- two accesses of a core, and how the second comes before an access of the next core: the words, a number for what the
-- first is, 1 for a store and 0 for a load, one for the access that comes next, and how many events there are but this;
-- the last five are whole cycles of one address
abbrev pub Row : Type 0
Row = List ℕ × ℕ × ℕ × ℕ

unfoldable pub blocks : List Row
blocks =
    (codes "PodRR Fre", 0, 1, 2)
    ∷ (codes "PodRR Fre Rfe", 0, 0, 3)
    ∷ (codes "PodRW Rfe", 0, 0, 2)
    ∷ (codes "PodRW Coe", 0, 1, 2)
    ∷ (codes "PodRW Coe Rfe", 0, 0, 3)
    ∷ (codes "PodWR Fre", 1, 1, 2)
    ∷ (codes "PodWR Fre Rfe", 1, 0, 3)
    ∷ (codes "MFencedWR Fre", 1, 1, 3)
    ∷ (codes "MFencedWR Fre Rfe", 1, 0, 4)
    ∷ (codes "PodWW Rfe", 1, 0, 2)
    ∷ (codes "PodWW Coe", 1, 1, 2)
    ∷ (codes "PodWW Coe Rfe", 1, 0, 3)
    ∷ (codes "PosWW Coi", 2, 2, 2)
    ∷ (codes "PosRW Rfi", 3, 3, 2)
    ∷ (codes "PosWR Fri", 4, 4, 2)
    ∷ (codes "PosRR Fre Rfe", 5, 5, 3)
    ∷ (codes "PosRW Coe Rfe", 6, 6, 3) ∷ []

-- the row of block b
abbrev pub row_in : List Row → ℕ → Row
row_in rows b = slice_index_or rows b ([], 7, 7, 0)

unfoldable pub row_at : ℕ → Row
row_at b = row_in blocks b

abbrev pub block_text : ℕ → List ℕ
block_text b = (row_at b).0

abbrev pub block_start : ℕ → ℕ
block_start b = (row_at b).1

abbrev pub block_end : ℕ → ℕ
block_end b = (row_at b).2

abbrev pub block_events : ℕ → ℕ
block_events b = (row_at b).3

-- the block is a cycle alone
abbrev pub is_alone : ℕ → Bool
is_alone b = nat_lt 1 (block_start b)

-- Coherence.
use Rattle.std.specs.Prelude.{◌≡◌, ◌≢◌, ◌<◌, ℕ, Option, IsTrue, IsFalse, length}
use Rattle.moesi.specs.Lines.{is_valid, is_owned, compatible}
use Rattle.moesi.specs.Block.{Block, cell_of}
use Rattle.moesi.specs.State.{CacheState, block_of, current}

-- the lines of one address agree, and these are its current data
pub record IsCoherentBlock (b : Block) (copy : ℕ × Option ℕ) : Type 0 where
  -- beside a line in M or E no other is valid, and at most one is M or O
  pub pairs : (c d : ℕ) → c ≢ d → IsTrue (compatible (cell_of b c).line (cell_of b d).line)
  -- all valid lines have the data
  pub copies : (c : ℕ) → IsTrue (is_valid (cell_of b c).line) → (cell_of b c).copy ≡ copy
  -- without an M or O line so has memory
  pub clean : ((c : ℕ) → IsFalse (is_owned (cell_of b c).line)) → b.memory ≡ copy

-- each address has a line for each core, and its lines agree
pub record IsCoherent (s : CacheState) : Type 0 where
  pub lines : (a : ℕ) → a < length s.blocks → length (block_of s a).lines ≡ s.cores
  pub blocks : (a : ℕ) → IsCoherentBlock (block_of s a) (current s a)

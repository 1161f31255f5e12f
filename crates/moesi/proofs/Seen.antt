-- What a word says of the caches that the words stand for.
use Rattle.std.proofs.Common.{◌≡◌, ◌<◌, ◌≤◌, ◌+◌, ◌*◌, ℕ, Option, List, length, slice_index, slice_set, arith, sym}
use Rattle.std.proofs.Common.{ap, ◌∙◌, slice_index_or}
use Rattle.std.proofs.lemmas.List.{get_or_read}
use Rattle.moesi.specs.declared.cell.Cell.{Cell}
use Rattle.moesi.specs.Block.{Block, cell_of, invalid, with_line}
use Rattle.moesi.specs.State.{CacheState, block_of, memory_of, with_block}
use Rattle.moesi.specs.Words.{cell_in, AreWords, block_in, caches_in}
use Rattle.moesi.proofs.Grid.{column, block_seen, inside, line_at}
use Rattle.moesi.proofs.Written.{line_written, memory_written, written_twice, block_written}

module _ (cores n : ℕ) (words : List ℕ) (s : CacheState) (seen : caches_in cores n words ≡ s) (row a p : ℕ)
    (place : p ≡ row * n + a) (at : a < length s.blocks) where
  -- there is such a word
  pub within : AreWords cores n words → row ≤ s.cores → p < length words
  within size low =
      let core = rw (← seen) at low in
      rw place (inside cores n words row a size (omega arith) (column cores n words s a seen at))

  -- what is read there
  read_at : (v : ℕ) → v ≡ slice_index_or words p v → AreWords cores n words → row ≤ s.cores
      → v ≡ slice_index words (row * n + a)
  read_at v is size low =
      get_or_read words p v (within size low) is 0 ∙ ap (λ (i : ℕ). slice_index words i) place

  -- a core's word is its line
  pub line_read : (v : ℕ) → v ≡ slice_index_or words p v → AreWords cores n words → row < s.cores
      → cell_in v ≡ cell_of (block_of s a) row
  line_read v is size low =
      let core = rw (← seen) at low in
      ap cell_in (read_at v is size (omega arith)) ∙ (sym (line_at cores n words row a invalid core)
      ∙ ap (λ (b : Block). cell_of b row) (block_seen cores n words s a seen at))

  -- memory's word is memory
  pub memory_read : (v : ℕ) → v ≡ slice_index_or words p v → AreWords cores n words → row ≡ s.cores
      → (cell_in v).copy ≡ memory_of s a
  memory_read v is size low =
      let all = rw (← seen) at low in
      ap (λ (w : ℕ). (cell_in w).copy)
      (read_at v is size (omega arith) ∙ ap (λ (i : ℕ). slice_index words (i * n + a)) all)
      ∙ ap (λ (b : Block). b.memory) (block_seen cores n words s a seen at)

  module _ (size : AreWords cores n words) (w : ℕ) where
    -- another word of a core is another line
    pub line_set : row < s.cores
        → caches_in cores n (slice_set words p w) ≡ with_block s a (with_line (block_of s a) row (cell_in w))
    line_set low =
        let core = rw (← seen) at low in
        ap (λ (i : ℕ). caches_in cores n (slice_set words i w)) place
        ∙ (line_written cores n words row a w size (omega arith) (column cores n words s a seen at) core
        ∙ (ap (λ (t : CacheState). with_block t a (with_line (block_in cores n words a) row (cell_in w))) seen
        ∙ ap (λ (b : Block). with_block s a (with_line b row (cell_in w))) (block_seen cores n words s a seen at)))

    -- another word of memory is another memory
    pub memory_set : row ≡ s.cores → caches_in cores n (slice_set words p w)
        ≡ with_block s a (record { lines = (block_of s a).lines; memory = (cell_in w).copy })
    memory_set low =
        let all = rw (← seen) at low in
        let m : ℕ × Option ℕ = (cell_in w).copy in
        ap (λ (i : ℕ). caches_in cores n (slice_set words i w)) place
        ∙ (memory_written cores n words row a w size (omega arith) (column cores n words s a seen at) all
        ∙ (ap (λ (t : CacheState). with_block t a (record { lines = (block_in cores n words a).lines; memory = m }))
        seen
        ∙ ap (λ (b : Block). with_block s a (record { lines = b.lines; memory = m }))
        (block_seen cores n words s a seen at)))

-- a line is set where the address was changed before
pub set_after : (s t u : CacheState) (a c : ℕ) (b : Block) (x y : Cell) → a < length s.blocks → t ≡ with_block s a b
    → u ≡ with_block t a (with_line (block_of t a) c y) → y ≡ x → u ≡ with_block s a (with_line b c x)
set_after s t u a c b x y at first last is =
    last ∙ (ap (λ (k : CacheState). with_block k a (with_line (block_of k a) c y)) first
    ∙ (written_twice s a b (with_line (block_of (with_block s a b) a) c y)
    ∙ (ap (λ (k : Block). with_block s a (with_line k c y)) (block_written s a b at)
    ∙ ap (λ (z : Cell). with_block s a (with_line b c z)) is)))

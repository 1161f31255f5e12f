-- Words that are 0 but for memory's are the opening state with memory's values.
use Rattle.std.proofs.Common.{◌≡◌, ◌<◌, ◌≤◌, ◌+◌, ◌*◌, ℕ, List, [], length, replicate, slice_index, arith}
use Rattle.std.proofs.Common.{sym, ap, ◌∙◌, None}
use Rattle.std.proofs.lemmas.List.{ext_get_or, length-map, get_or-map, length-replicate, get_or-replicate}
use Rattle.std.proofs.Math.Nat.{add-mul, mul-le-mul_right}
use Rattle.moesi.specs.declared.cell.Cell.{Cell}
use Rattle.moesi.specs.Block.{Block, invalid, block_with}
use Rattle.moesi.specs.State.{opening_with}
use Rattle.moesi.specs.Words.{cell_in, memory_cell, block_in, caches_in}
use Rattle.moesi.proofs.Grid.{lines_length, blocks_length, line_at, block_at}

module _ (cores : ℕ) (init words : List ℕ)
    (zeros : (i : ℕ) → i < cores * length init → slice_index words i ≡ 0)
    (values : (a : ℕ) → a < length init
    → cell_in (slice_index words (cores * length init + a)) ≡ memory_cell (slice_index init a)) where
  -- each line of an address is in I
  line_empty : (a c : ℕ) → a < length init → c < cores
      → cell_in (slice_index words (c * length init + a)) ≡ invalid
  line_empty a c at core =
      let more : (c + 1) * length init ≤ cores * length init = mul-le-mul_right (length init) (omega arith) in
      ap cell_in (zeros (c * length init + a) (omega (arith, more, at, add-mul c 1 (length init))))

  -- so are all of them
  lines_empty : (a : ℕ) → a < length init
      → (block_in cores (length init) words a).lines ≡ replicate cores invalid
  lines_empty a at =
      ext_get_or invalid (block_in cores (length init) words a).lines (replicate cores invalid)
      (lines_length cores (length init) words a ∙ sym (length-replicate cores invalid))
      (λ c inside.
      let core : c < cores = omega (arith, inside, lines_length cores (length init) words a) in
      line_at cores (length init) words c a invalid core
      ∙ (line_empty a c at core ∙ sym (get_or-replicate cores c invalid invalid core)))

  -- memory has its value
  block_filled : (a : ℕ) → a < length init
      → block_in cores (length init) words a ≡ block_with cores (slice_index init a)
  block_filled a at =
      ap (λ (ls : List Cell). let b : Block = record {
        lines = ls;
        memory = (cell_in (slice_index words (cores * length init + a))).copy;
      } in b) (lines_empty a at)
      ∙ ap (λ (x : Cell). let b : Block = record { lines = replicate cores invalid; memory = x.copy } in b)
      (values a at)

  -- the words are the opening state
  pub filled_words : caches_in cores (length init) words ≡ opening_with cores init
  filled_words =
      let none : Block = record { lines = []; memory = (0, None) } in
      ap (λ (bs : List Block). record { cores = cores; blocks = bs })
      (ext_get_or none (caches_in cores (length init) words).blocks (opening_with cores init).blocks
      (blocks_length cores (length init) words ∙ sym (length-map init (λ v. block_with cores v)))
      (λ a inside.
      let at : a < length init = omega (arith, inside, blocks_length cores (length init) words) in
      block_at cores (length init) words a at
      ∙ (block_filled a at ∙ sym (get_or-map (λ v. block_with cores v) init a 0 none at))))

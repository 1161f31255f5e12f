-- A write of a word is a write of a line, or of memory, of one address.
use Rattle.std.proofs.Common.{◌≡◌, ◌≢◌, ◌<◌, ◌++◌, ◌+◌, ◌*◌, inl, inr, ℕ, None, List, [], ◌∷◌, length, map}
use Rattle.std.proofs.Common.{slice_index, slice_index_or, slice_set, arith, refl, sym, ap, ◌∙◌, take, drop}
use Rattle.std.proofs.Common.{get_or-set_other, get_or-set_same, length-set}
use Rattle.std.specs.List.{range_with_len}
use Rattle.std.proofs.lemmas.List.{set-set, set-get_or, set_past}
use Rattle.std.proofs.lemmas.List.FromFn.{fill_by_all, get_or-map-range_with_len, length-map-range_with_len}
use Rattle.std.proofs.lemmas.List.Edits.{map_over_more}
use Rattle.moesi.specs.declared.cell.Cell.{Cell}
use Rattle.moesi.specs.Block.{Block, invalid, with_line}
use Rattle.moesi.proofs.BlockLemmas.{set_cases}
use Rattle.moesi.specs.State.{CacheState, block_of, with_block}
use Rattle.moesi.specs.Words.{cell_in, AreWords, block_in, caches_in}
use Rattle.moesi.proofs.Grid.{same_core, same_address, inside, lines_length, line_at, block_at}

-- equal functions make equal lists
map_equal : {X Y : Type 0} (f g : X → Y) (xs : List X) → ((x : X) → f x ≡ g x) → map f xs ≡ map g xs
map_equal f g [] h = refl
map_equal f g (x ∷ xs) h = rw (h x, map_equal f g xs h) refl

-- a function of each number that is another at one of them
range_set : {X : Type 0} (f g : ℕ → X) (n c : ℕ) (d : X) → ((i : ℕ) → i ≢ c → i < n → f i ≡ g i)
    → slice_set (map f (range_with_len 0 n)) c (g c) ≡ map g (range_with_len 0 n)
range_set {X} f g n c d same =
    let old : List X = map f (range_with_len 0 n) in
    let size : length old ≡ n = length-map-range_with_len f 0 n in
    fill_by_all g (slice_set old c (g c)) n d (length-set old c (g c) ∙ size)
    (λ i h. elim (set_cases old c (g c) i d) [
      | inl p ↦ p.1 ∙ (get_or-map-range_with_len f 0 n i i d h (omega arith)
          ∙ same i (λ e. let past = p.0 e in omega arith) h)
      | inr p ↦ p.1 ∙ ap g (sym p.0)
    ])

-- where one word is written, of core c, or of memory, and address a
module _ (cores n : ℕ) (words : List ℕ) (c a w : ℕ) (size : AreWords cores n words) (core : c < cores + 1)
    (column : a < n) where
  abbrev now : List ℕ
  now = slice_set words (c * n + a) w

  -- it is the word
  here : slice_index now (c * n + a) ≡ w
  here = get_or-set_same words (c * n + a) w 0 (inside cores n words c a size core column)

  -- the words of other cores are as they were
  other_core : (d : ℕ) → d ≢ c → slice_index words (d * n + a) ≡ slice_index now (d * n + a)
  other_core d ne =
      sym (get_or-set_other words (c * n + a) (d * n + a) w 0 (λ e. ne (same_core n d a c a column column e)))

  -- so are those of other addresses
  other_block : (b : ℕ) → b ≢ a → b < n → block_in cores n words b ≡ block_in cores n now b
  other_block b ne at =
      let other : (d : ℕ) → slice_index words (d * n + b) ≡ slice_index now (d * n + b) =
      λ d. sym (get_or-set_other words (c * n + a) (d * n + b) w 0 (λ e. ne (same_address n d b c a at column e))) in
      rw (
        map_equal (λ d. cell_in (slice_index words (d * n + b))) (λ d. cell_in (slice_index now (d * n + b)))
            (range_with_len 0 cores) (λ d. ap cell_in (other d)),
        other cores,
      ) refl

  -- the lines of the address
  lines : slice_set (block_in cores n words a).lines c (cell_in w) ≡ (block_in cores n now a).lines
  lines =
      rw (ap cell_in here) at
      (range_set (λ d. cell_in (slice_index words (d * n + a))) (λ d. cell_in (slice_index now (d * n + a))) cores c
      invalid (λ d ne at. ap cell_in (other_core d ne)))

  -- the state with the address changed
  changed : (b : Block) → b ≡ block_in cores n now a
      → caches_in cores n now ≡ with_block (caches_in cores n words) a b
  changed b is =
      ap (λ (bs : List Block). record { cores = cores; blocks = bs })
      (sym (range_set (block_in cores n words) (block_in cores n now) n a (record { lines = []; memory = (0, None) })
      other_block)) ∙ ap (with_block (caches_in cores n words) a) (sym is)

  -- a core's word is its line
  pub line_written : c < cores
      → caches_in cores n now ≡ with_block (caches_in cores n words) a
      (with_line (block_in cores n words a) c (cell_in w))
  line_written within =
      changed (with_line (block_in cores n words a) c (cell_in w))
      (rw (lines, other_core cores (λ e. omega arith)) refl)

  -- memory's word is memory
  pub memory_written : c ≡ cores → caches_in cores n now ≡ with_block (caches_in cores n words) a
      (record { lines = (block_in cores n words a).lines; memory = (cell_in w).copy })
  memory_written all =
      changed (record { lines = (block_in cores n words a).lines; memory = (cell_in w).copy })
      (rw (
        sym (set_past (block_in cores n words a).lines c (cell_in w)
            (omega (arith, lines_length cores n words a))) ∙ lines,
        ap (λ (i : ℕ). slice_index now (i * n + a)) (sym all) ∙ here,
      ) refl)

-- two writes of one address are the second
pub written_twice : (s : CacheState) (a : ℕ) (b d : Block) → with_block (with_block s a b) a d ≡ with_block s a d
written_twice s a b d =
    ap (λ (bs : List Block). record { cores = s.cores; blocks = bs }) (set-set s.blocks a b d)

-- what was written is there
pub block_written : (s : CacheState) (a : ℕ) (b : Block) → a < length s.blocks → block_of (with_block s a b) a ≡ b
block_written s a b at = get_or-set_same s.blocks a b _ at

-- an address that is what it was
pub state_same : (s : CacheState) (a : ℕ) → with_block s a (block_of s a) ≡ s
state_same s a = ap (λ (bs : List Block). record { cores = s.cores; blocks = bs }) (set-get_or s.blocks a _)

-- the lines of the cores below c became what f makes of them
abbrev pub block_up_to : (Cell → Cell) → ℕ → Block → Block
block_up_to f c b = record { lines = map f (take c b.lines) ++ drop c b.lines; memory = b.memory }

-- one more line is turned where its word is written
pub turns_more : (cores n : ℕ) (s : CacheState) (words : List ℕ) (c a p w : ℕ) (f : Cell → Cell) (b : Block)
    → AreWords cores n words → c < cores → a < n → a < length s.blocks → c < length b.lines → p ≡ c * n + a
    → cell_in w ≡ f (cell_in (slice_index words p)) → caches_in cores n words ≡ with_block s a (block_up_to f c b)
    → caches_in cores n (slice_set words p w) ≡ with_block s a (block_up_to f (c + 1) b)
turns_more cores n s words c a p w f b size core column at line place is before =
    let up : Block = block_up_to f c b in
    let x : Cell = cell_in (slice_index words (c * n + a)) in
    let now : block_in cores n words a ≡ up =
    sym (block_at cores n words a column) ∙ (ap (λ (t : CacheState). block_of t a) before ∙ block_written s a up at) in
    let turned : slice_set up.lines c (f x) ≡ map f (take (c + 1) b.lines) ++ drop (c + 1) b.lines =
    map_over_more f b.lines up.lines c x line refl
    (sym (line_at cores n words c a x core) ∙ ap (λ (k : Block). slice_index_or k.lines c x) now) in
    let new : with_line (block_in cores n words a) c (cell_in w) ≡ block_up_to f (c + 1) b =
    ap (λ (k : Block). with_line k c (cell_in w)) now
    ∙ (ap (with_line up c) (is ∙ ap (λ (i : ℕ). f (cell_in (slice_index words i))) place)
    ∙ ap (λ (ls : List Cell). record { lines = ls; memory = b.memory }) turned) in
    rw place (line_written cores n words c a w size (omega arith) column core
    ∙ (ap (λ (t : CacheState). with_block t a (with_line (block_in cores n words a) c (cell_in w))) before
    ∙ (written_twice s a up (with_line (block_in cores n words a) c (cell_in w)) ∙ ap (with_block s a) new)))

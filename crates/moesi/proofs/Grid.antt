-- Places of words, and what is read there.
use Rattle.std.proofs.Common.{◌≡◌, ◌<◌, ◌≤◌, ◌∷◌, ◌+◌, ◌*◌, ◌/◌, ◌%◌, ℕ, List, length, drop, slice_index}
use Rattle.std.proofs.Common.{slice_index_or, arith, sym, ap, ◌∙◌}
use Rattle.std.proofs.lemmas.List.FromFn.{get_or-map-range_with_len, length-map-range_with_len}
use Rattle.std.proofs.lemmas.Nat.{div-mul-add, mod-mul-add}
use Rattle.std.proofs.Math.Nat.{add-mul, mul-le-mul_right}
use Rattle.std.proofs.lemmas.List.{drop_more}
use Rattle.moesi.specs.declared.cell.Cell.{Cell}
use Rattle.moesi.specs.Block.{Block, invalid}
use Rattle.moesi.specs.State.{CacheState, block_of}
use Rattle.moesi.specs.Words.{cell_in, AreWords, block_in, caches_in}

-- two places are the same only where both their parts are: the core
pub same_core : (n c a d b : ℕ) → a < n → b < n → c * n + a ≡ d * n + b → c ≡ d
same_core n c a d b p q e = sym (div-mul-add c n a p) ∙ (ap (λ i. i / n) e ∙ div-mul-add d n b q)

-- and the address
pub same_address : (n c a d b : ℕ) → a < n → b < n → c * n + a ≡ d * n + b → a ≡ b
same_address n c a d b p q e = sym (mod-mul-add c n a p) ∙ (ap (λ i. i % n) e ∙ mod-mul-add d n b q)

-- the place of a core's word, or of memory's, is among the words
pub inside : (cores n : ℕ) (words : List ℕ) (c a : ℕ) → AreWords cores n words → c < cores + 1 → a < n
    → c * n + a < length words
inside cores n words c a size core column =
    let more : (c + 1) * n ≤ (cores + 1) * n = mul-le-mul_right n (omega arith) in
    omega (arith, more, size, add-mul c 1 n)

-- the place of the next core's word of the address
pub next_place : (c n a p : ℕ) → p ≡ c * n + a → p + n ≡ (c + 1) * n + a
next_place c n a p h = omega (arith, h, add-mul c 1 n)

-- an address has a line for each core
pub lines_length : (cores n : ℕ) (words : List ℕ) (a : ℕ) → length (block_in cores n words a).lines ≡ cores
lines_length cores n words a =
    length-map-range_with_len (λ c. cell_in (slice_index words (c * n + a))) 0 cores

-- there is a block for each address
pub blocks_length : (cores n : ℕ) (words : List ℕ) → length (caches_in cores n words).blocks ≡ n
blocks_length cores n words = length-map-range_with_len (λ a. block_in cores n words a) 0 n

-- what a core has of an address is in its word
pub line_at : (cores n : ℕ) (words : List ℕ) (c a : ℕ) (d : Cell) → c < cores
    → slice_index_or (block_in cores n words a).lines c d ≡ cell_in (slice_index words (c * n + a))
line_at cores n words c a d at =
    get_or-map-range_with_len (λ i. cell_in (slice_index words (i * n + a))) 0 cores c c d at (omega arith)

-- the block of an address is in its words
pub block_at : (cores n : ℕ) (words : List ℕ) (a : ℕ) → a < n
    → block_of (caches_in cores n words) a ≡ block_in cores n words a
block_at cores n words a at =
    get_or-map-range_with_len (λ b. block_in cores n words b) 0 n a a _ at (omega arith)

-- the lines from a core on begin with its own
pub lines_from : (cores n : ℕ) (words : List ℕ) (a c p : ℕ) (x : Cell) → c < cores → p ≡ c * n + a
    → x ≡ cell_in (slice_index words p)
    → drop c (block_in cores n words a).lines ≡ x ∷ drop (c + 1) (block_in cores n words a).lines
lines_from cores n words a c p x core place is =
    let b : Block = block_in cores n words a in
    drop_more b.lines c invalid (omega (arith, lines_length cores n words a))
    ∙ ap (λ (y : Cell). y ∷ drop (c + 1) b.lines)
    (line_at cores n words c a invalid core ∙ sym (is ∙ ap (λ (i : ℕ). cell_in (slice_index words i)) place))

-- an address of caches that are seen is one of their words
pub column : (cores n : ℕ) (words : List ℕ) (s : CacheState) (a : ℕ) → caches_in cores n words ≡ s
    → a < length s.blocks → a < n
column cores n words s a seen at = let there = rw (← seen) at at in omega (arith, blocks_length cores n words)

-- what they have of it is in the words
pub block_seen : (cores n : ℕ) (words : List ℕ) (s : CacheState) (a : ℕ) → caches_in cores n words ≡ s
    → a < length s.blocks → block_in cores n words a ≡ block_of s a
block_seen cores n words s a seen at =
    sym (block_at cores n words a (column cores n words s a seen at)) ∙ ap (λ (t : CacheState). block_of t a) seen

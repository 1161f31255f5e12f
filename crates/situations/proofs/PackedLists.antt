-- Lists of equally many numbers, packed into blocks.
use Rattle.std.proofs.Common.{◌≡◌, ◌<◌, ◌≤◌, ◌+◌, ◌-◌, ◌*◌, ◌/◌, ◌%◌, ◌^◌, ◌∙◌, inl, inr, ℕ, zero, suc, List, [], ◌∷◌}
use Rattle.std.proofs.Common.{◌++◌}
use Rattle.std.proofs.Common.{length, map, get_or, take, drop, arith, refl, sym, ap}
use Rattle.std.proofs.Common.{length-append}
use Rattle.std.specs.List.{All, range_with_len}
use Rattle.std.proofs.lemmas.Bool.{cases_lt}
use Rattle.std.proofs.Common.{Err, Ok, Result}
use Rattle.std.specs.Prelude.{OnOk}
use Rattle.std.proofs.lemmas.List.{get_or-map, map-append, drop-append-le, get_or_append_left, length-drop}
use Rattle.std.proofs.lemmas.List.{length-take-le, take-append-le}
use Rattle.std.proofs.lemmas.List.{take_all}
use Rattle.std.proofs.lemmas.List.FromFn.{get_or-map-range_with_len, length-map-range_with_len}
use Rattle.std.proofs.lemmas.List.FromFn.{map-range_with_len_more}
use Rattle.std.proofs.Math.Nat.{mul-le-mul_left, mul-suc}
use Rattle.std.proofs.Math.Seq.{drop-append_seam, get_or-append_seam}
use Rattle.situations.specs.declared.block.Block.{Block}
use Rattle.situations.specs.Packed.{AreFull, PackedLists, list_at, lists_in, numbers_in}

-- what follows where a call does what it says
pub on_ok : {A E : Type 0} (P Q : Type 0) (r : Result A E) → (P → Q) → OnOk r P → OnOk r Q
on_ok P Q (Ok x) f h = f h
on_ok P Q (Err e) f h = tt

-- the numbers of a block
pub block_is : (blocks : List Block) (k : ℕ) (b : Block) → k < length blocks → b ≡ get_or blocks k b
    → get_or (map numbers_in blocks) k [] ≡ numbers_in b
block_is blocks k b inside is = get_or-map numbers_in blocks k b [] inside ∙ ap numbers_in (sym is)

-- those of blocks with one more
pub block_added : (blocks new : List Block) (b : Block) (words : List ℕ) → new ≡ blocks ++ b ∷ [] → numbers_in b ≡ words
    → map numbers_in new ≡ map numbers_in blocks ++ words ∷ []
block_added blocks new b words more is =
    ap (map numbers_in) more
    ∙ (map-append numbers_in blocks (b ∷ []) ∙ ap (λ (l : List ℕ). map numbers_in blocks ++ l ∷ []) is)

-- a list more
pub one_list_more : (w n : ℕ) (blocks : List (List ℕ)) (last newer : List ℕ) (p : PackedLists) (list : List ℕ)
    → (w ≡ p.width) → (lists_in w n blocks last ≡ p.lists)
    → lists_in w (n + 1) blocks newer ≡ lists_in w n blocks last ++ list ∷ []
    → (let longer : PackedLists = record { width = w; lists = lists_in w (n + 1) blocks newer } in
    longer ≡ record { width = p.width; lists = p.lists ++ list ∷ [] })
one_list_more w n blocks last newer p list width was more =
    let lists : lists_in w (n + 1) blocks newer ≡ p.lists ++ list ∷ [] =
    more ∙ ap (λ (ls : List (List ℕ)). ls ++ list ∷ []) was in
    λ i. record { width = width i; lists = lists i }

-- what two functions give alike below n
pub alike_below : (f g : ℕ → List ℕ) (n : ℕ) → ((i : ℕ) → i < n → f i ≡ g i)
    → map f (range_with_len 0 n) ≡ map g (range_with_len 0 n)
alike_below f g zero each = refl
alike_below f g (suc n) each =
    let more : n + 1 ≡ suc n = omega arith in
    ap (λ (k : ℕ). map f (range_with_len 0 k)) (sym more)
    ∙ (map-range_with_len_more f 0 n n (omega arith)
    ∙ (ap (λ (l : List (List ℕ)). l ++ f n ∷ []) (alike_below f g n (λ i low. each i (omega (arith, low))))
    ∙ (ap (λ (l : List ℕ). map g (range_with_len 0 n) ++ l ∷ []) (each n (omega arith))
    ∙ (sym (map-range_with_len_more g 0 n n (omega arith))
    ∙ ap (λ (k : ℕ). map g (range_with_len 0 k)) more))))

module _ (w n : ℕ) (blocks : List (List ℕ)) (last : List ℕ) (full : AreFull w n blocks last) where
  -- the block of a list, or what is in no block yet
  abbrev all : List (List ℕ)
  all = blocks ++ last ∷ []

  size : length all ≡ length blocks + 1
  size = length-append blocks (last ∷ [])

  -- a list in a block has all of it there
  pub in_block : (i : ℕ) → i / 64 < length blocks → w * (i % 64) + w ≤ length (get_or blocks (i / 64) [])
  in_block i there =
      let step : w * suc (i % 64) ≡ w * (i % 64) + w = mul-suc w (i % 64) in
      let room : w * suc (i % 64) ≤ w * 64 = mul-le-mul_left w (omega arith) in
      omega (arith, room, step, full.whole (i / 64) there)

  -- one in no block is after them
  pub at_last : (i : ℕ) → i < n → length blocks ≤ i / 64 → (i / 64 ≡ length blocks) × (w * (i % 64) + w ≤ length last)
  at_last i low past =
      let step : w * suc (i % 64) ≡ w * (i % 64) + w = mul-suc w (i % 64) in
      let here : i / 64 ≡ length blocks = omega (arith, low, past, full.few) in
      let room : w * suc (i % 64) ≤ w * (n - 64 * length blocks) =
      mul-le-mul_left w (omega (arith, low, here)) in
      (here, omega (arith, room, step, full.rest))

  -- so each is there
  is_whole : (i : ℕ) → i < n → (i / 64 < length all) × (w * (i % 64) + w ≤ length (get_or all (i / 64) []))
  is_whole i low = elim (cases_lt (i / 64) (length blocks)) [
    | inl there ↦ (
      omega (arith, there, size),
      (let same : length (get_or all (i / 64) []) ≡ length (get_or blocks (i / 64) []) =
          ap (λ (l : List ℕ). length l) (get_or_append_left blocks (last ∷ []) [] (i / 64) there) in
          omega (arith, same, in_block i there)),
    )
    | inr past ↦
        let found = at_last i low past in
        let same : length (get_or all (i / 64) []) ≡ length last =
        ap (λ (k : ℕ). length (get_or all k [])) found.0
        ∙ ap (λ (l : List ℕ). length l) (get_or-append_seam blocks last [] []) in
        (omega (arith, found.0, size), omega (arith, same, found.1))
  ]

  -- the list with a number, in its block
  pub list_in_block : (i : ℕ) → i < n → i / 64 < length blocks
      → get_or (lists_in w n blocks last) i [] ≡ take w (drop (w * (i % 64)) (get_or blocks (i / 64) []))
  list_in_block i low there =
      get_or-map-range_with_len (list_at w all) 0 n i i [] low (omega arith)
      ∙ ap (λ (l : List ℕ). take w (drop (w * (i % 64)) l)) (get_or_append_left blocks (last ∷ []) [] (i / 64) there)

  -- and after them
  pub list_at_last : (i : ℕ) → i < n → length blocks ≤ i / 64
      → get_or (lists_in w n blocks last) i [] ≡ take w (drop (w * (i % 64)) last)
  list_at_last i low past =
      get_or-map-range_with_len (list_at w all) 0 n i i [] low (omega arith)
      ∙ (ap (λ (k : ℕ). take w (drop (w * (i % 64)) (get_or all k []))) (at_last i low past).0
      ∙ ap (λ (l : List ℕ). take w (drop (w * (i % 64)) l)) (get_or-append_seam blocks last [] []))

  -- each list has its numbers
  pub each_width : All (λ l. length l ≡ w) (lists_in w n blocks last)
  each_width i d inside =
      let low : i < n = omega (arith, inside, length-map-range_with_len (list_at w all) 0 n) in
      let room = is_whole i low in
      ap (λ (l : List ℕ). length l) (get_or-map-range_with_len (list_at w all) 0 n i i d low (omega arith))
      ∙ length-take-le w (drop (w * (i % 64)) (get_or all (i / 64) []))
      (omega (arith, room.1, length-drop (w * (i % 64)) (get_or all (i / 64) [])))

  -- A block is closed

  module _ (there : n ≡ 64 * length blocks + 64) where
    pub closed_full : AreFull w n (blocks ++ last ∷ []) []
    closed_full = record {
      narrow = full.narrow;
      short = full.short;
      many = omega (arith, there, size);
      few = omega (arith, there, size);
      whole = λ k low. elim (cases_lt k (length blocks)) [
        | inl more ↦
            ap (λ (l : List ℕ). length l) (get_or_append_left blocks (last ∷ []) [] k more) ∙ full.whole k more
        | inr past ↦
            let here : k ≡ length blocks = omega (arith, low, past, size) in
            let count : n - 64 * length blocks ≡ 64 = omega (arith, there) in
            ap (λ (m : ℕ). length (get_or all m [])) here
            ∙ (ap (λ (l : List ℕ). length l) (get_or-append_seam blocks last [] [])
            ∙ (full.rest ∙ ap (λ (m : ℕ). w * m) count))
      ];
      rest = let none : 0 ≡ n - 64 * length all = omega (arith, there, size) in
          let nought : 0 ≡ w * 0 = omega arith in
          nought ∙ ap (λ (m : ℕ). w * m) none;
    }

    pub closed_lists : lists_in w n (blocks ++ last ∷ []) [] ≡ lists_in w n blocks last
    closed_lists = alike_below (list_at w (all ++ [] ∷ [])) (list_at w all) n
        (λ i low. ap (λ (l : List ℕ). take w (drop (w * (i % 64)) l))
        (get_or_append_left all ([] ∷ []) [] (i / 64) (is_whole i low).0))

  -- A list is added

  module _ (list : List ℕ) (fits : length list ≡ w) (room : n < 2 ^ 32) (more : n < 64 * length blocks + 64) where
    abbrev longer : List (List ℕ)
    longer = blocks ++ (last ++ list) ∷ []

    pub added_full : AreFull w (n + 1) blocks (last ++ list)
    added_full =
        let count : suc (n - 64 * length blocks) ≡ n + 1 - 64 * length blocks = omega (arith, full.many) in
        let sum : length (last ++ list) ≡ w * (n - 64 * length blocks) + w =
        omega (arith, length-append last list, full.rest, fits) in
        record {
          narrow = full.narrow;
          short = omega (arith, room);
          many = omega (arith, full.many);
          few = omega (arith, more);
          whole = full.whole;
          rest = sum ∙ (sym (mul-suc w (n - 64 * length blocks)) ∙ ap (λ (m : ℕ). w * m) count);
        }

    pub added_lists : lists_in w (n + 1) blocks (last ++ list) ≡ lists_in w n blocks last ++ list ∷ []
    added_lists =
        let at : n / 64 ≡ length blocks = omega (arith, full.many, more) in
        let place : n % 64 ≡ n - 64 * length blocks = omega (arith, full.many, more) in
        let start : w * (n % 64) ≡ length last = ap (λ (m : ℕ). w * m) place ∙ sym full.rest in
        let newest : list_at w longer n ≡ list =
        ap (λ (m : ℕ). take w (drop (w * (n % 64)) (get_or longer m []))) at
        ∙ (ap (λ (b : List ℕ). take w (drop (w * (n % 64)) b)) (get_or-append_seam blocks (last ++ list) [] [])
        ∙ (ap (λ (m : ℕ). take w (drop m (last ++ list))) start
        ∙ (ap (take w) (drop-append_seam last list) ∙ take_all w list (omega (arith, fits))))) in
        map-range_with_len_more (list_at w longer) 0 n n (omega arith)
        ∙ (ap (λ (l : List ℕ). map (list_at w longer) (range_with_len 0 n) ++ l ∷ []) newest
        ∙ ap (λ (ls : List (List ℕ)). ls ++ list ∷ []) (alike_below (list_at w longer) (list_at w all) n kept))
      where
        kept : (i : ℕ) → i < n → list_at w longer i ≡ list_at w all i
        kept i low = elim (cases_lt (i / 64) (length blocks)) [
          | inl there ↦ ap (λ (b : List ℕ). take w (drop (w * (i % 64)) b))
              (get_or_append_left blocks ((last ++ list) ∷ []) [] (i / 64) there
              ∙ sym (get_or_append_left blocks (last ∷ []) [] (i / 64) there))
          | inr past ↦
              let found = at_last i low past in
              ap (λ (k : ℕ). take w (drop (w * (i % 64)) (get_or longer k []))) found.0
              ∙ (ap (λ (b : List ℕ). take w (drop (w * (i % 64)) b)) (get_or-append_seam blocks (last ++ list) [] [])
              ∙ (ap (take w) (drop-append-le (w * (i % 64)) last list (omega (arith, found.1)))
              ∙ (take-append-le w (drop (w * (i % 64)) last) list
              (omega (arith, found.1, length-drop (w * (i % 64)) last))
              ∙ (ap (λ (b : List ℕ). take w (drop (w * (i % 64)) b)) (sym (get_or-append_seam blocks last [] []))
              ∙ ap (λ (k : ℕ). take w (drop (w * (i % 64)) (get_or all k []))) (sym found.0)))))
        ]

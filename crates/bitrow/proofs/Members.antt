-- The list of a row's numbers, from its bits.
use Rattle.std.proofs.Common.{◌≡◌, ◌<◌, ◌≤◌, ◌+◌, ◌*◌, ◌/◌, inl, inr, ℕ, zero, suc, Bool, true, false, Option}
use Rattle.std.proofs.Common.{Some, None, ◌||◌, ◌&&◌, not, ◌^◌, List, length, drop, get_or, arith, refl, sym}
use Rattle.std.proofs.Common.{ap, subst, ◌∙◌}
use Rattle.std.proofs.lemmas.Bool.{cases_lt, ne_eqb, true≢false}
use Rattle.std.proofs.lemmas.List.{get_or_past, get_or-replicate, length-replicate, take_all, take-append-le}
use Rattle.std.specs.Prelude.{◌==◌, replicate}
use Rattle.smallvec.specs.SmallVec.{SmallVec, with_items}
use Rattle.bitrow.specs.Bits.{bit_of, bits_of, listed, members_below, is_in, IsClear, IsWidth, AreWordsOf}
use Rattle.bitrow.specs.Bits.{IsNextBit, IsNext}
use Rattle.bitrow.proofs.Bits.{none_in}
use Rattle.bitrow.proofs.RowLemmas.{wide_enough}

-- as many as asked for
listed_length : (f : ℕ → Bool) (a n : ℕ) → length (listed f a n) ≡ n
listed_length f a zero = refl
listed_length f a (suc n) = omega (arith, listed_length f (a + 1) n)

-- each at its place
listed_at : (f : ℕ → Bool) (a n j : ℕ) → j < n → get_or (listed f a n) j false ≡ f (a + j)
listed_at f a zero j h = absurd (omega arith)
listed_at f a (suc n) zero h = ap f (omega arith)
listed_at f a (suc n) (suc j) h = listed_at f (a + 1) n j (omega arith) ∙ ap f (omega arith)

-- as many as the length
pub members_length : (words : List ℕ) (n : ℕ) → length (members_below words n) ≡ n
unfolding members_below
members_length words n = listed_length (bit_of words) 0 n

-- a number is in the set where its bit is 1
pub members_bit : (words : List ℕ) (n : ℕ) → IsClear n words → (j : ℕ)
    → is_in (members_below words n) j ≡ bit_of words j
unfolding members_below
members_bit words n clear j = elim (cases_lt j n) [
  | inl below ↦ listed_at (bit_of words) 0 n j below ∙ ap (bit_of words) (omega arith)
  | inr past ↦ get_or_past (members_below words n) j false (omega (arith, past, members_length words n))
      ∙ sym (clear j past)
]

-- past the last word no bit is 1
pub clear_past : (words : List ℕ) (n : ℕ) → 64 * length words ≤ n → IsClear n words
clear_past words n all j past = none_in words j (get_or_past words (j / 64) 0 (omega (arith, all, past)))

-- the same in lanes
pub bits_bit : (words : List ℕ) (j : ℕ) → is_in (bits_of words) j ≡ bit_of words j
unfolding bits_of
bits_bit words j = members_bit words (64 * length words) (clear_past words (64 * length words) (omega arith)) j

-- words of 0 have no bit
pub zeros : (m j : ℕ) → bit_of (replicate m 0) j ≡ false
zeros m j = none_in (replicate m 0) j (elim (cases_lt (j / 64) m) [
  | inl inside ↦ get_or-replicate m (j / 64) 0 0 inside
  | inr past ↦ get_or_past (replicate m 0) (j / 64) 0 (omega (arith, past, length-replicate {A = ℕ} m 0))
])

-- the words of a set of a length are as many as those of another
pub same_width : (a b n : ℕ) → IsWidth a n → IsWidth b n → a ≡ b
same_width a b n h k = elim (cases_lt n 65) [
  | inl one ↦ h.one (omega (arith, one)) ∙ sym (k.one (omega (arith, one)))
  | inr some ↦ elim (cases_lt n 129) [
    | inl two ↦ h.two (omega (arith, some)) (omega (arith, two))
        ∙ sym (k.two (omega (arith, some)) (omega (arith, two)))
    | inr more ↦ elim (cases_lt n 257) [
      | inl four ↦ h.four (omega (arith, more)) (omega (arith, four))
          ∙ sym (k.four (omega (arith, more)) (omega (arith, four)))
      | inr most ↦ h.eights (omega (arith, most)) ∙ sym (k.eights (omega (arith, most)))
    ]
  ]
]

-- a row's length
pub row_length : (words : List ℕ) (n : ℕ) (row : List Bool) → members_below words n ≡ row → length row ≡ n
row_length words n row seen = ap (λ (r : List Bool). length r) (sym seen) ∙ members_length words n

-- a row's number, by the words that hold it
pub row_bit : (words : List ℕ) (n : ℕ) (row : List Bool) → members_below words n ≡ row → IsClear n words
    → (j : ℕ) → is_in row j ≡ bit_of words j
row_bit words n row seen clear j = ap (λ (r : List Bool). is_in r j) (sym seen) ∙ members_bit words n clear j

-- a number of a row is in its words, as they are lent
pub word_within : (words lent : List ℕ) (n e : ℕ) (row : List Bool) → members_below words n ≡ row → AreWordsOf words n
    → lent ≡ words → e < length row → e / 64 < length lent
word_within words lent n e row seen h same low = omega (
  arith,
  low,
  row_length words n row seen,
  wide_enough (length words) n h.width,
  ap (λ (ws : List ℕ). length ws) same,
)

-- rows of one length have as many words
pub rows_wide : (words other : List ℕ) (n m : ℕ) (row set : List Bool) → members_below words n ≡ row
    → members_below other m ≡ set → AreWordsOf words n → AreWordsOf other m → length row ≡ length set
    → length words ≡ length other
rows_wide words other n m row set seen also h k long = same_width (length words) (length other) m
    (subst (λ (l : ℕ). IsWidth (length words) l)
    (omega (arith, long, row_length words n row seen, row_length other m set also)) h.width) k.width

-- a bit that is 1 is below the length
pub bit_below : (words : List ℕ) (n e : ℕ) → IsClear n words → bit_of words e ≡ true → e < n
bit_below words n e clear is = elim (cases_lt e n) [
  | inl inside ↦ inside
  | inr past ↦ absurd (true≢false (sym is ∙ clear e past))
]

-- a row's next number is that of the next bit
pub row_next : (words : List ℕ) (n : ℕ) (row : List Bool) (from : ℕ) (next : Option ℕ) → members_below words n ≡ row
    → IsClear n words → IsNextBit words from next → IsNext row from next
row_next words n row from None seen clear none = λ j above. row_bit words n row seen clear j ∙ none j above
row_next words n row from (Some i) seen clear next = (
  next.0,
  omega (arith, bit_below words n i clear next.1, row_length words n row seen),
  row_bit words n row seen clear i ∙ next.1,
  λ j above below. row_bit words n row seen clear j ∙ next.2 j above below,
)

-- and so in lanes
pub bits_next : (words : List ℕ) (from : ℕ) (next : Option ℕ) → IsNextBit words from next
    → IsNext (bits_of words) from next
unfolding bits_of
bits_next words from next h = row_next words (64 * length words) (members_below words (64 * length words)) from next
    refl (clear_past words (64 * length words) (omega arith)) h

-- what a row has become, number by number
pub record Becomes (each : ℕ → Bool → Bool) (row : List Bool) (words : List ℕ) (n : ℕ) : Type 0 where
  pub held : AreWordsOf words n
  pub size : length (members_below words n) ≡ length row
  pub numbers : (j : ℕ) → is_in (members_below words n) j ≡ each j (is_in row j)

module _ (v : SmallVec ℕ) (now new : List ℕ) (n : ℕ) (row : List Bool) (seen : members_below v.items n ≡ row)
    (h : AreWordsOf v.items n) (same : now ≡ v.items) (size : length new ≡ length now) where
  -- a row whose words a call leaves as new ones, bit by bit
  row_by : (f : ℕ → Bool → Bool) → ((j : ℕ) → n ≤ j → f j false ≡ false)
      → ((j : ℕ) → bit_of new j ≡ f j (bit_of now j)) → Becomes f row (with_items v new).items n
  row_by f fixed each = record {
    held = record {
      width = subst (λ (k : ℕ). IsWidth k n) (ap (λ (ws : List ℕ). length ws) (sym same)
          ∙ (sym size ∙ ap (λ (ws : List ℕ). length ws) (sym kept))) h.width;
      clear = clear;
      counted = h.counted;
    };
    size = members_length (with_items v new).items n ∙ sym (row_length v.items n row seen);
    numbers = λ j. members_bit (with_items v new).items n clear j
        ∙ (by j ∙ ap (f j) (sym (row_bit v.items n row seen h.clear j)));
  }
    where
      long : length new ≡ length v.items
      long = size ∙ ap (λ (ws : List ℕ). length ws) same

      kept : (with_items v new).items ≡ new
      kept = take-append-le (length v.items) new (drop (length new) v.items) (omega (arith, long))
          ∙ take_all (length v.items) new (omega (arith, long))

      by : (j : ℕ) → bit_of (with_items v new).items j ≡ f j (bit_of v.items j)
      by j = ap (λ (ws : List ℕ). bit_of ws j) kept ∙ (each j ∙ ap (λ (ws : List ℕ). f j (bit_of ws j)) same)

      clear : IsClear n (with_items v new).items
      clear j past = by j ∙ (ap (f j) (h.clear j past) ∙ fixed j past)

  -- one number more
  pub row_set : (e : ℕ) → e < length row → ((j : ℕ) → bit_of new j ≡ (bit_of now j || (j == e)))
      → Becomes (λ j b. b || (j == e)) row (with_items v new).items n
  row_set e inside each = row_by (λ (j : ℕ) (b : Bool). b || (j == e))
      (λ j past. ne_eqb j e (λ is. omega (arith, is, past, inside, row_length v.items n row seen))) each

  -- one number fewer
  pub row_remove : (e : ℕ) → ((j : ℕ) → bit_of new j ≡ (bit_of now j && not (j == e)))
      → Becomes (λ j b. b && not (j == e)) row (with_items v new).items n
  row_remove e each = row_by (λ (j : ℕ) (b : Bool). b && not (j == e)) (λ j past. refl) each

  module _ (other lent : List ℕ) (m : ℕ) (set : List Bool) (also : members_below other m ≡ set)
      (k : AreWordsOf other m) (second : lent ≡ other) where
    -- a bit of the other words, as a number of their set
    lent_bit : (j : ℕ) → bit_of lent j ≡ is_in set j
    lent_bit j = ap (λ (ws : List ℕ). bit_of ws j) second ∙ sym (row_bit other m set also k.clear j)

    -- the numbers of both sets
    pub row_or : length set ≡ length row → ((j : ℕ) → bit_of new j ≡ (bit_of now j || bit_of lent j))
        → Becomes (λ j b. b || is_in set j) row (with_items v new).items n
    row_or wide each = row_by (λ (j : ℕ) (b : Bool). b || is_in set j)
        (λ j past. get_or_past set j false (omega (arith, past, wide, row_length v.items n row seen)))
        (λ j. each j ∙ ap (λ (b : Bool). bit_of now j || b) (lent_bit j))

    -- the numbers of one set that are not in the other
    pub row_and_not : ((j : ℕ) → bit_of new j ≡ (bit_of now j && not (bit_of lent j)))
        → Becomes (λ j b. b && not (is_in set j)) row (with_items v new).items n
    row_and_not each = row_by (λ (j : ℕ) (b : Bool). b && not (is_in set j)) (λ j past. refl)
        (λ j. each j ∙ ap (λ (b : Bool). bit_of now j && not b) (lent_bit j))

-- words of 0, of which there are enough
pub words_of_zeros : (m n : ℕ) → IsWidth m n → n < 2 ^ 64 → AreWordsOf (replicate m 0) n
words_of_zeros m n wide counted = record {
  width = subst (λ (k : ℕ). IsWidth k n) (sym (length-replicate {A = ℕ} m 0)) wide;
  clear = λ j past. zeros m j;
  counted = counted;
}

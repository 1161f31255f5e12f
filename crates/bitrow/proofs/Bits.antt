-- Bits of words: test, set, or, and-not, and the first.
use Rattle.std.proofs.Common.{◌≡◌, ◌<◌, ◌≤◌, ◌+◌, ◌-◌, ◌*◌, ◌/◌, ◌%◌, ◌^◌, inl, inr, ℕ, zero, suc, Bool, true}
use Rattle.std.proofs.Common.{false, Some, None, ◌||◌, ◌&&◌, not, List, length, get_or, set, min, max}
use Rattle.std.proofs.Common.{arith, refl, sym, ap, ◌∙◌, get_or-set_other, get_or-set_same}
use Rattle.std.proofs.lemmas.Bool.{cases_eq, cases_lt, eq-eqb, ne_eqb}
use Rattle.std.specs.Int.{bit_at, bit_not, trailing_zeros}
use Rattle.std.proofs.Common.{w64}
use Rattle.std.proofs.lemmas.List.{get_or_past}
use Rattle.std.proofs.Math.Bool.{or-false, or-true, and-true, and-false}
use Rattle.std.specs.Prelude.{◌==◌, bit_or, bit_and}
use Rattle.std.proofs.lemmas.Nat.Bits.{bit_at_or, bit_at_and, bit_at-lt, bit_at-zero, bit_at_set_same}
use Rattle.std.proofs.lemmas.Nat.Bits.{bit_at_set_other, bit_at_clear_same, bit_at_clear_other, bit_at_not}
use Rattle.std.proofs.lemmas.Nat.Bits.{shr_and_one, bit_at-trailing_zeros}
use Rattle.bitrow.specs.Bits.{bit_of, IsNextBit}

-- two bits, joined
test_or : (a b : ℕ) → a < 2 → b < 2 → (max a b == 1) ≡ ((a == 1) || (b == 1))
test_or zero zero p q = refl
test_or zero (suc zero) p q = refl
test_or (suc zero) zero p q = refl
test_or (suc zero) (suc zero) p q = refl
test_or zero (suc (suc b)) p q = absurd (omega arith)
test_or (suc zero) (suc (suc b)) p q = absurd (omega arith)
test_or (suc (suc a)) b p q = absurd (omega arith)

-- one bit without another
test_and_not : (a b : ℕ) → a < 2 → b < 2 → (min a (1 - b) == 1) ≡ ((a == 1) && not (b == 1))
test_and_not zero zero p q = refl
test_and_not zero (suc zero) p q = refl
test_and_not (suc zero) zero p q = refl
test_and_not (suc zero) (suc zero) p q = refl
test_and_not zero (suc (suc b)) p q = absurd (omega arith)
test_and_not (suc zero) (suc (suc b)) p q = absurd (omega arith)
test_and_not (suc (suc a)) b p q = absurd (omega arith)

-- what the code computes is the test
pub test_is : (words : List ℕ) (i : ℕ) → (bit_and (get_or words (i / 64) 0 / 2 ^ (i % 64)) 1 == 1)
    ≡ bit_of words i
unfolding bit_of
test_is words i = ap (λ (b : ℕ). b == 1) (shr_and_one (get_or words (i / 64) 0) (i % 64))

-- a bit of two words, joined
or_word : (a b i : ℕ) → (bit_at (bit_or a b) i == 1) ≡ ((bit_at a i == 1) || (bit_at b i == 1))
or_word a b i = ap (λ (x : ℕ). x == 1) (bit_at_or a b i)
    ∙ test_or (bit_at a i) (bit_at b i) (bit_at-lt a i) (bit_at-lt b i)

-- a bit of one word without another
and_not_word : (a b i : ℕ) → b < 2 ^ 64 → i < 64
    → (bit_at (bit_and a (bit_not w64 b)) i == 1) ≡ ((bit_at a i == 1) && not (bit_at b i == 1))
and_not_word a b i fits small = ap (λ (x : ℕ). x == 1) (bit_at_and a (bit_not w64 b) i)
    ∙ (ap (λ (x : ℕ). min (bit_at a i) x == 1) (bit_at_not w64 b i fits small)
    ∙ test_and_not (bit_at a i) (bit_at b i) (bit_at-lt a i) (bit_at-lt b i))

-- a word that is 0 has no bit
pub none_in : (words : List ℕ) (j : ℕ) → get_or words (j / 64) 0 ≡ 0 → bit_of words j ≡ false
unfolding bit_of
none_in words j empty = ap (λ (w : ℕ). bit_at w (j % 64) == 1) empty
    ∙ ap (λ (b : ℕ). b == 1) (bit_at-zero (j % 64))

-- words that are combined one by one, where each bit is by those of the two
combined_bits : (f : ℕ → ℕ → ℕ) (g : Bool → Bool → Bool) (before after other : List ℕ) (n : ℕ)
    → length after ≡ length before → length other ≡ length before → length before ≤ n
    → ((m : ℕ) → m < n → get_or after m 0 ≡ f (get_or before m 0) (get_or other m 0))
    → ((m i : ℕ) → i < 64 → (bit_at (f (get_or before m 0) (get_or other m 0)) i == 1)
    ≡ g (bit_at (get_or before m 0) i == 1) (bit_at (get_or other m 0) i == 1))
    → g false false ≡ false → (j : ℕ) → bit_of after j ≡ g (bit_of before j) (bit_of other j)
unfolding bit_of
combined_bits f g before after other n long same all each law neither j = elim (cases_lt (j / 64) n) [
  | inl below ↦ ap (λ (w : ℕ). bit_at w (j % 64) == 1) (each (j / 64) below) ∙ law (j / 64) (j % 64) (omega arith)
  | inr past ↦ none_in after j (get_or_past after (j / 64) 0 (omega (arith, long, all, past)))
      ∙ (sym neither
      ∙ (ap (λ (b : Bool). g b false) (sym (none_in before j (get_or_past before (j / 64) 0 (omega (
        arith,
        all,
        past,
      )))))
      ∙ ap (g (bit_at (get_or before (j / 64) 0) (j % 64) == 1))
      (sym (none_in other j (get_or_past other (j / 64) 0 (omega (arith, same, all, past)))))))
]

-- joined one by one they have the bits of both
pub or_all : (before after other : List ℕ) (n : ℕ) → length after ≡ length before → length other
    ≡ length before → length before ≤ n
    → ((m : ℕ) → m < n → get_or after m 0 ≡ bit_or (get_or before m 0) (get_or other m 0)) → (j : ℕ)
    → bit_of after j ≡ (bit_of before j || bit_of other j)
or_all before after other n long same all each =
    combined_bits (λ a b. bit_or a b) (λ a b. a || b) before after other n long same all each
    (λ m i _. or_word (get_or before m 0) (get_or other m 0) i) refl

-- and cleared one by one the bits that the others lack
pub and_not_all : (before after other : List ℕ) (n : ℕ) → length after ≡ length before → length other
    ≡ length before → length before ≤ n → ((m : ℕ) → get_or other m 0 < 2 ^ 64)
    → ((m : ℕ) → m < n → get_or after m 0 ≡ bit_and (get_or before m 0) (bit_not w64 (get_or other m 0)))
    → (j : ℕ) → bit_of after j ≡ (bit_of before j && not (bit_of other j))
and_not_all before after other n long same all fits each =
    combined_bits (λ a b. bit_and a (bit_not w64 b)) (λ a b. a && not b) before after other n long same all each
    (λ m i small. and_not_word (get_or before m 0) (get_or other m 0) i (fits m) small) refl

-- a word that differs from its own in one bit
changed : (g : Bool → Bool → Bool) (words : List ℕ) (i word : ℕ) → i / 64 < length words
    → ((b : Bool) → g b false ≡ b) → (bit_at word (i % 64) == 1) ≡ g (bit_of words i) true
    → ((b : ℕ) → (b ≡ i % 64 → ⊥) → b < 64 → bit_at word b ≡ bit_at (get_or words (i / 64) 0) b) → (j : ℕ)
    → bit_of (set words (i / 64) word) j ≡ g (bit_of words j) (j == i)
unfolding bit_of
changed g words i word at keeps here others j = elim (cases_eq j i) [
  | inl is ↦ ap (λ (k : ℕ). bit_at (get_or (set words (i / 64) word) (k / 64) 0) (k % 64) == 1) is
      ∙ (ap (λ (w : ℕ). bit_at w (i % 64) == 1) (get_or-set_same words (i / 64) word 0 at)
      ∙ (here ∙ (ap (λ (k : ℕ). g (bit_at (get_or words (k / 64) 0) (k % 64) == 1) true) (sym is)
      ∙ ap (g (bit_at (get_or words (j / 64) 0) (j % 64) == 1)) (sym (eq-eqb j i is)))))
  | inr other ↦ elim (cases_eq (j / 64) (i / 64)) [
    | inl same ↦ ap (λ (k : ℕ). bit_at (get_or (set words (i / 64) word) k 0) (j % 64) == 1) same
        ∙ (ap (λ (w : ℕ). bit_at w (j % 64) == 1) (get_or-set_same words (i / 64) word 0 at)
        ∙ (ap (λ (b : ℕ). b == 1) (others (j % 64) (λ is. other (omega (arith, is, same))) (omega arith))
        ∙ (ap (λ (k : ℕ). bit_at (get_or words k 0) (j % 64) == 1) (sym same) ∙ as_it_was other)))
    | inr apart ↦ ap (λ (w : ℕ). bit_at w (j % 64) == 1) (get_or-set_other words (i / 64) (j / 64) word 0 apart)
        ∙ as_it_was other
  ]
]
  where
    as_it_was : (j ≡ i → ⊥) → (bit_at (get_or words (j / 64) 0) (j % 64) == 1)
        ≡ g (bit_at (get_or words (j / 64) 0) (j % 64) == 1) (j == i)
    as_it_was other = sym (keeps (bit_at (get_or words (j / 64) 0) (j % 64) == 1))
        ∙ ap (g (bit_at (get_or words (j / 64) 0) (j % 64) == 1)) (sym (ne_eqb j i other))

-- what the code writes into the word is the bit
pub set_is : (words : List ℕ) (i : ℕ) → i / 64 < length words → (j : ℕ)
    → bit_of (set words (i / 64) (bit_or (get_or words (i / 64) 0) (1 * 2 ^ (i % 64) % 2 ^ 64))) j
    ≡ (bit_of words j || (j == i))
set_is words i at = changed (λ (b t : Bool). b || t) words i
    (bit_or (get_or words (i / 64) 0) (1 * 2 ^ (i % 64) % 2 ^ 64)) at or-false
    (ap (λ (x : ℕ). x == 1) (bit_at_set_same w64 (get_or words (i / 64) 0) (i % 64) (omega arith))
    ∙ sym (or-true (bit_of words i)))
    (λ b other _. bit_at_set_other w64 (get_or words (i / 64) 0) (i % 64) (omega arith) b other)

-- or takes the bit out
pub clear_is : (words : List ℕ) (i : ℕ) → i / 64 < length words → (j : ℕ)
    → bit_of (set words (i / 64)
    (bit_and (get_or words (i / 64) 0) (bit_not w64 (1 * 2 ^ (i % 64) % 2 ^ 64)))) j
    ≡ (bit_of words j && not (j == i))
clear_is words i at = changed (λ (b t : Bool). b && not t) words i
    (bit_and (get_or words (i / 64) 0) (bit_not w64 (1 * 2 ^ (i % 64) % 2 ^ 64))) at and-true
    (ap (λ (x : ℕ). x == 1) (bit_at_clear_same w64 (get_or words (i / 64) 0) (i % 64) (omega arith))
    ∙ sym (and-false (bit_of words i)))
    (λ b other small. bit_at_clear_other w64 (get_or words (i / 64) 0) (i % 64) (omega arith) b small other)

-- past the last word no bit is 1
pub past_words : (words : List ℕ) (from : ℕ) → length words ≤ from / 64 → IsNextBit words from None
past_words words from all j h = none_in words j (get_or_past words (j / 64) 0 (omega (arith, all, h)))

-- where the words from one on are 0, no bit is 1
pub none_at_all : (words : List ℕ) (from n : ℕ) → length words ≤ n
    → ((m : ℕ) → from ≤ m → m < n → get_or words m 0 ≡ 0) → IsNextBit words (64 * from) None
none_at_all words from n all zeros j h = none_in words j (elim (cases_lt (j / 64) n) [
  | inl below ↦ zeros (j / 64) (omega (arith, h)) below
  | inr past ↦ get_or_past words (j / 64) 0 (omega (arith, all, past))
])

-- bit i of word k
pub bit_in : (words : List ℕ) (k i j : ℕ) → i < 64 → j ≡ 64 * k + i → bit_of words j
    ≡ (bit_at (get_or words k 0) i == 1)
unfolding bit_of
bit_in words k i j small is =
    let word : j / 64 ≡ k = omega (arith, is, small) in
    let place : j % 64 ≡ i = omega (arith, is, small) in
    ap (λ (m : ℕ). bit_at (get_or words m 0) (j % 64) == 1) word
    ∙ ap (λ (t : ℕ). bit_at (get_or words k 0) t == 1) place

-- the lowest bit of the first word that is not 0
pub first_is : (words : List ℕ) (from k : ℕ) → from ≤ k → 0 < get_or words k 0 → get_or words k 0 < 2 ^ 64
    → ((m : ℕ) → from ≤ m → m < k → get_or words m 0 ≡ 0)
    → IsNextBit words (64 * from) (Some (64 * k + trailing_zeros w64 (get_or words k 0)))
first_is words from k le some fits zeros =
    let law : (trailing_zeros w64 (get_or words k 0) < 64)
    × (bit_at (get_or words k 0) (trailing_zeros w64 (get_or words k 0)) ≡ 1)
    × ((i : ℕ) → i < trailing_zeros w64 (get_or words k 0) → bit_at (get_or words k 0) i ≡ 0) =
    bit_at-trailing_zeros w64 (get_or words k 0) some fits in (
      omega (arith, le),
      bit_in words k (trailing_zeros w64 (get_or words k 0))
          (64 * k + trailing_zeros w64 (get_or words k 0)) law.0 refl ∙ ap (λ (b : ℕ). b == 1) law.1,
      λ j above below. elim (cases_lt (j / 64) k) [
        | inl earlier ↦ none_in words j (zeros (j / 64) (omega (arith, above)) earlier)
        | inr same ↦ bit_in words k (j % 64) j (omega arith) (omega (arith, same, below, law.0))
            ∙ ap (λ (b : ℕ). b == 1) (law.2 (j % 64) (omega (arith, same, below, law.0)))
      ],
    )

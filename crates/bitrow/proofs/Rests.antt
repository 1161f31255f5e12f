-- What is left of a word, and the first bit from there on.
use Rattle.std.proofs.Common.{◌≡◌, ◌<◌, ◌≤◌, ◌+◌, ◌-◌, ◌*◌, ◌/◌, ◌%◌, ◌^◌, inl, inr, ℕ, true, false, Option}
use Rattle.std.proofs.Common.{Some, None, List, length, get_or, arith, refl, sym, ap, subst, ◌∙◌}
use Rattle.std.proofs.Common.{w64}
use Rattle.std.specs.Prelude.{◌==◌}
use Rattle.std.specs.Int.{bit_at, trailing_zeros}
use Rattle.std.proofs.lemmas.Bool.{cases_lt, cases_eq, ne_eqb, true≢false}
use Rattle.std.proofs.lemmas.Nat.Bits.{bit_at-lt, bit_at-zero, bit_at-trailing_zeros}
use Rattle.bitrow.specs.Bits.{bit_of, IsNextBit}
use Rattle.bitrow.specs.Walks.{IsRest}
use Rattle.bitrow.proofs.Bits.{bit_in, none_in, past_words}

-- a bit is 0 where it is not 1
not_one : (b : ℕ) → b < 2 → (b == 1) ≡ false → b ≡ 0
not_one b small other = elim (cases_eq b 1) [
  | inl is ↦ absurd (true≢false (sym (ap (λ (x : ℕ). x == 1) is) ∙ other))
  | inr differs ↦ omega (arith, small)
]

-- and 1 where it is told from no other
is_one : (b : ℕ) → (b == 1) ≡ true → b ≡ 1
is_one b is = elim (cases_eq b 1) [
  | inl one ↦ one
  | inr other ↦ absurd (true≢false (sym is ∙ ne_eqb b 1 other))
]

-- a bit that is still to come
rest_bit : (words : List ℕ) (k rest from : ℕ) → IsRest words k rest from → (j i : ℕ) → i < 64 → j ≡ 64 * k
    + i → from ≤ j → bit_of words j ≡ (bit_at rest i == 1)
rest_bit words k rest from h j i small is above = bit_in words k i j small is
    ∙ ap (λ (b : ℕ). b == 1) (sym (h.left i small (omega (arith, is, above))))

-- the lowest bit of what is left
pub lowest : (rest : ℕ) → (rest ≡ 0 → ⊥) → rest < 2 ^ 64 → (trailing_zeros w64 rest < 64)
    × (bit_at rest (trailing_zeros w64 rest) ≡ 1)
    × ((i : ℕ) → i < trailing_zeros w64 rest → bit_at rest i ≡ 0)
lowest rest some fits = bit_at-trailing_zeros w64 rest (omega arith) fits

-- it is not before the place
pub lowest_from : (words : List ℕ) (k rest from b : ℕ) → IsRest words k rest from → bit_at rest b ≡ 1
    → from ≤ 64 * k + b
lowest_from words k rest from b h one = elim (cases_lt (64 * k + b) from) [
  | inl before ↦ absurd (omega (arith, h.gone b before, one))
  | inr above ↦ above
]

-- and it is the first from there on
pub rest_next : (words : List ℕ) (k rest from : ℕ) → IsRest words k rest from → (rest ≡ 0 → ⊥)
    → rest < 2 ^ 64 → IsNextBit words from (Some (64 * k + trailing_zeros w64 rest))
rest_next words k rest from h some fits =
    let b : ℕ = trailing_zeros w64 rest in
    let low = lowest rest some fits in
    let above : from ≤ 64 * k + b = lowest_from words k rest from b h low.1 in (
      above,
      rest_bit words k rest from h (64 * k + b) b low.0 refl above ∙ ap (λ (x : ℕ). x == 1) low.1,
      λ j here below. rest_bit words k rest from h j (j - 64 * k)
          (omega (arith, below, low.0, h.begun, here)) (omega (arith, h.begun, here)) here
          ∙ ap (λ (x : ℕ). x == 1) (low.2 (j - 64 * k) (omega (arith, below, h.begun, here))),
    )

-- what is left after the lowest bit
pub rest_after : (words : List ℕ) (k rest from b after : ℕ) → IsRest words k rest from → b < 64
    → bit_at rest b ≡ 1 → ((i : ℕ) → i < b → bit_at rest i ≡ 0)
    → bit_at after b ≡ 0 → ((i : ℕ) → i < 64 → (i ≡ b → ⊥) → bit_at after i ≡ bit_at rest i)
    → IsRest words k after (64 * k + b + 1)
rest_after words k rest from b after h small one low cleared others = record {
  within = h.within;
  begun = omega arith;
  ended = omega (arith, small);
  gone = λ i less. elim (cases_eq i b) [
    | inl is ↦ ap (bit_at after) is ∙ cleared
    | inr differs ↦ others i (omega (arith, less, small)) differs ∙ low i (omega (arith, less, differs))
  ];
  left = λ i less above. others i less (λ is. omega (arith, is, above))
      ∙ h.left i less (omega (arith, lowest_from words k rest from b h one, above));
}

-- where nothing is left of the word, no bit of it is 1
pub rest_empty : (words : List ℕ) (k from : ℕ) → IsRest words k 0 from → (j : ℕ) → from ≤ j → j < 64 * (k + 1)
    → bit_of words j ≡ false
rest_empty words k from h j above below = rest_bit words k 0 from h j (j - 64 * k) (omega (
  arith,
  below,
  h.begun,
  above,
))
    (omega (arith, h.begun, above)) above ∙ ap (λ (b : ℕ). b == 1) (bit_at-zero (j - 64 * k))

-- and the first bit is in the words after it
pub rest_none : (words : List ℕ) (k from : ℕ) (next : Option ℕ) → IsRest words k 0 from
    → IsNextBit words (64 * (k + 1)) next → IsNextBit words from next
rest_none words k from None h none = λ j above. elim (cases_lt j (64 * (k + 1))) [
  | inl here ↦ rest_empty words k from h j above here
  | inr later ↦ none j later
]
rest_none words k from (Some e) h some = (
  omega (arith, some.0, h.ended),
  some.1,
  λ j above below. elim (cases_lt j (64 * (k + 1))) [
    | inl here ↦ rest_empty words k from h j above here
    | inr later ↦ some.2 j later below
  ],
)

-- a bit that is 1 is in one of the words
pub bit_within : (words : List ℕ) (e : ℕ) → bit_of words e ≡ true → e / 64 < length words
bit_within words e is = elim (cases_lt (e / 64) (length words)) [
  | inl inside ↦ inside
  | inr past ↦ absurd (true≢false (sym is ∙ past_words words e past e (omega arith)))
]

-- which is not 0
pub some_bit : (words : List ℕ) (e : ℕ) → bit_of words e ≡ true → 0 < get_or words (e / 64) 0
some_bit words e is = elim (cases_eq (get_or words (e / 64) 0) 0) [
  | inl none ↦ absurd (true≢false (sym is ∙ none_in words e none))
  | inr other ↦ omega (arith, other)
]

-- the whole word
pub rest_whole : (words : List ℕ) (k : ℕ) → k ≤ length words → IsRest words k (get_or words k 0) (64 * k)
rest_whole words k within = record {
  within = within;
  begun = omega arith;
  ended = omega arith;
  gone = λ i less. absurd (omega (arith, less));
  left = λ i less above. refl;
}

-- the first bit from a word on is the lowest of its own
pub lowest_of_word : (words : List ℕ) (m e : ℕ) → IsNextBit words (64 * m) (Some e)
    → (bit_at (get_or words (e / 64) 0) (e % 64) ≡ 1)
    × ((i : ℕ) → i < e % 64 → bit_at (get_or words (e / 64) 0) i ≡ 0)
lowest_of_word words m e next =
    let word : ℕ = get_or words (e / 64) 0 in (
      is_one (bit_at word (e % 64)) (sym (bit_in words (e / 64) (e % 64) e (omega arith) (omega arith)) ∙ next.1),
      λ i less. not_one (bit_at word i) (bit_at-lt word i)
          (sym (bit_in words (e / 64) i (64 * (e / 64) + i) (omega (arith, less)) refl) ∙ next.2
          (64 * (e / 64) + i) (omega (arith, next.0)) (omega (arith, less))),
    )

-- what is left of its word after it
pub rest_of_word : (words : List ℕ) (m e after : ℕ) → IsNextBit words (64 * m) (Some e)
    → (bit_at after (e % 64) ≡ 0) × ((i : ℕ) → (i ≡ e % 64 → ⊥) → bit_at after i ≡ bit_at (get_or words (e / 64) 0) i)
    → IsRest words (e / 64) after (e + 1)
rest_of_word words m e after next rest =
    let low = lowest_of_word words m e next in
    subst (IsRest words (e / 64) after) (omega arith)
    (rest_after words (e / 64) (get_or words (e / 64) 0) (64 * (e / 64)) (e % 64) after
    (rest_whole words (e / 64) (omega (arith, bit_within words e next.1))) (omega arith) low.0 low.1 rest.0
    (λ i small other. rest.1 i other))

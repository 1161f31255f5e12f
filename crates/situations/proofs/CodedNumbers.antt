-- Numbers as codes, and the numbers that codes from 128 on stand for.
use Rattle.std.proofs.Common.{◌≡◌, ◌<◌, ◌≤◌, ◌+◌, ◌-◌, ◌∙◌, ℕ, List, [], ◌∷◌, ◌++◌, length, map}
use Rattle.std.proofs.Common.{arith, refl, ap, cond, inl, inr, length-append, append_assoc, suc}
use Rattle.std.specs.Prelude.{nat_lt}
use Rattle.std.proofs.lemmas.List.{get_or_append_left, map-append}
use Rattle.std.proofs.lemmas.Bool.{cases_lt, lt-ltb}
use Rattle.std.specs.List.{All}
use Rattle.std.proofs.lemmas.List.Elements.{All-push}
use Rattle.situations.specs.Numbers.{number_of}

-- codes and the rest of some words are all of them
pub record AreCodes (codes large rest words : List ℕ) : Type 0 where
  pub numbers : map (number_of large) codes ++ rest ≡ words
  pub within : All (λ c. c < 128 + length large) codes
  pub few : length large ≤ 128

-- a code names the same number where there are more large ones
number_kept : (large more : List ℕ) (code : ℕ) → code < 128 + length large
    → number_of (large ++ more) code ≡ number_of large code
number_kept large more code low = elim (cases_lt code 128) [
  | inl small ↦ rw (lt-ltb code 128 small) refl
  | inr past ↦ ap (cond (nat_lt code 128) code) (get_or_append_left large more 0 (code - 128) (omega (arith, low, past)))
]

-- so do all codes
numbers_kept : (codes large more : List ℕ) → All (λ c. c < 128 + length large) codes
    → map (number_of (large ++ more)) codes ≡ map (number_of large) codes
numbers_kept [] large more within = refl
numbers_kept (c ∷ codes) large more within =
    ap (λ (n : ℕ). n ∷ map (number_of (large ++ more)) codes) (number_kept large more c (within 0 c (omega arith)))
    ∙ ap (λ (l : List ℕ). number_of large c ∷ l)
    (numbers_kept codes large more (λ k d inside. within (suc k) d (omega (arith, inside))))

-- one code more
pub one_code_more : (codes longer large newer more rest words : List ℕ) (code number : ℕ)
    → AreCodes codes large (number ∷ rest) words → newer ≡ large ++ more → length newer ≤ 128
    → number_of newer code ≡ number → code < 128 + length newer → longer ≡ codes ++ code ∷ []
    → AreCodes longer newer rest words
one_code_more codes longer large newer more rest words code number old is few named low added =
    let size : length newer ≡ length large + length more =
    ap (λ (l : List ℕ). length l) is ∙ length-append large more in
    let kept : map (number_of newer) codes ≡ map (number_of large) codes =
    ap (λ (l : List ℕ). map (number_of l) codes) is ∙ numbers_kept codes large more old.within in
    rw added (record {
      numbers =
          ap (λ (l : List ℕ). l ++ rest) (map-append (number_of newer) codes (code ∷ []))
          ∙ (ap (λ (n : ℕ). (map (number_of newer) codes ++ n ∷ []) ++ rest) named
          ∙ (ap (λ (l : List ℕ). (l ++ number ∷ []) ++ rest) kept
          ∙ (append_assoc (map (number_of large) codes) (number ∷ []) rest ∙ old.numbers)));
      within = All-push (λ c. c < 128 + length newer) codes code
          (λ k d inside. omega (arith, old.within k d inside, size)) low;
      few = few;
    })

-- Laws of a number and its text.
use Rattle.std.proofs.Common.{◌≡◌, ℕ, ◌+◌, ◌*◌, ◌-◌, ◌<◌, ◌^◌, ◌==◌, ◌&&◌, ◌||◌, not, nat_lt, nat_le, List}
use Rattle.std.proofs.Common.{[], ◌∷◌, length, get_or, slice_index, true, Some, None, refl}
use Rattle.std.proofs.Common.{arith, decimal, ap, sym, ◌∙◌, subst}
use Rattle.std.specs.List.{list_all}
use Rattle.std.proofs.lemmas.Bool.{leb-true, ltb-true, lt-ltb, cond-true, and_parts}
use Rattle.std.specs.Cmp.Derive.{both_true}
use Rattle.std.proofs.lemmas.Option.{cond_some}
use Rattle.std.proofs.lemmas.Grind.{common_steps}
use Rattle.std.proofs.lemmas.Str.Parse.{IsDigitsTest, FoldsDigits, IsNumeralModel, numerals_by_fold}
use Rattle.std.proofs.lemmas.Str.Parse.{digits_value_short}
use Rattle.std.proofs.lemmas.Fmt.{decimal-digits_value, digits_value-decimal, digits_decimal}
use Rattle.std.proofs.lemmas.Fmt.{length-decimal-le, decimal_is_IsNumeral}
use Rattle.texts.specs.Decimals.{is_digit, is_decimal, value_from, decimal_of}

-- a text of digits alone
abbrev pub AllDigitBytes : List ℕ → Type 0
AllDigitBytes ds = list_all is_digit ds ≡ true

-- the test for digits is one of each byte
pub tells : IsDigitsTest AllDigitBytes
tells = record {
  empty = refl;
  parts = λ c cs e.
      let all = and_parts (is_digit c) (list_all is_digit cs) e in
      let digit = and_parts (nat_le 48 c) (nat_le c 57) all.0 in
      ((leb-true 48 c digit.0, leb-true c 57 digit.1), all.1);
  more = λ c cs k e. grind (arith, common_steps, k, e);
}

-- the value is a fold over the digits
pub folds : FoldsDigits value_from
folds = record { empty = λ n. refl; more = λ n c cs k. refl }

-- decimal numbers as the library states their laws
pub model : IsNumeralModel AllDigitBytes (value_from 0)
model = numerals_by_fold AllDigitBytes tells value_from folds

-- a text that reads as a number of 32 bits is the one that is printed for it
pub only : (n : ℕ) (text : List ℕ) → n < 2 ^ 32 → decimal_of text ≡ Some n → decimal n ≡ text
unfolding decimal_of
only n text small e =
    let read = cond_some (is_decimal text) (value_from 0 text) n e in
    let both = and_parts (nat_lt 0 (length text) && list_all is_digit text) _ read.0 in
    let parts = and_parts (nat_lt 0 (length text)) (list_all is_digit text) both.0 in
    let lead : slice_index text 0 ≡ 48 → length text ≡ 1 = λ z. grind (arith, both.1, z) in
    ap decimal (sym read.1)
    ∙ decimal-digits_value model text parts.1 (ltb-true 0 (length text) parts.0) lead
    (omega (arith, read.1, small))

-- what is printed for a number begins with 0 only where it is one digit
no_lead_in : (n : ℕ) (ds : List ℕ) → n < 2 ^ 64 → decimal n ≡ ds → AllDigitBytes ds →
    value_from 0 ds ≡ n → get_or ds 0 0 ≡ 48 → length ds ≡ 1
no_lead_in n [] small e p v z = omega (arith, z)
no_lead_in n (c ∷ []) small e p v z = refl
no_lead_in n (c ∷ d ∷ cs) small e p v z =
    let rest : AllDigitBytes (d ∷ cs) = (and_parts (is_digit c) (list_all is_digit (d ∷ cs)) p).1 in
    let zero_first : 0 * 10 + (c - 48) ≡ 0 = omega (arith, z) in
    let value : value_from 0 (d ∷ cs) ≡ n = sym (ap (λ m. value_from m (d ∷ cs)) zero_first) ∙ v in
    let bound = digits_value_short model (d ∷ cs) (length (d ∷ cs)) rest (omega arith) in
    let below : n < 10 ^ length (d ∷ cs) = subst (λ m. m < 10 ^ length (d ∷ cs)) value bound in
    let short = length-decimal-le (length (d ∷ cs)) n (omega arith) below small in
    omega (arith, short, ap length e)

-- the text of a number begins with 0 only where it is one digit
pub no_lead : (n : ℕ) → n < 2 ^ 64 → get_or (decimal n) 0 0 ≡ 48 → length (decimal n) ≡ 1
no_lead n small z = no_lead_in n (decimal n) small refl (digits_decimal model n small)
    (digits_value-decimal model n small) z

-- the test for a leading 0
test_of : (a b : ℕ) → (a ≡ 48 → b ≡ 1) → (not (a == 48) || (b == 1)) ≡ true
test_of a b h = grind (arith, h)

-- what is printed for a number of 32 bits reads as it
pub again : (n : ℕ) → n < 2 ^ 32 → decimal_of (decimal n) ≡ Some n
unfolding decimal_of
again n small =
    let fits : n < 2 ^ 64 = omega (arith, small) in
    let some = lt-ltb 0 (length (decimal n)) (decimal_is_IsNumeral n fits).0.0 in
    let lead = test_of (get_or (decimal n) 0 0) (length (decimal n)) (no_lead n fits) in
    let test : is_decimal (decimal n) ≡ true =
    both_true (both_true some (digits_decimal model n fits)) lead in
    cond-true (is_decimal (decimal n)) (Some (value_from 0 (decimal n))) None test
    ∙ ap Some (digits_value-decimal model n fits)

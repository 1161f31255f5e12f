-- Digits of a number, taken one by one.
use Rattle.std.proofs.Common.{◌≡◌, ◌<◌, ◌≤◌, ◌^◌, ◌+◌, ◌*◌, ◌-◌, ◌/◌, ◌%◌, ◌++◌, ◌∷◌, ℕ, List, [], true, false}
use Rattle.std.proofs.Common.{inl, inr, decimal, length, get_or, refl, arith, ap, sym, ◌∙◌, append_assoc}
use Rattle.std.specs.List.{list_all}
use Rattle.std.specs.Bool.{⊤}
use Rattle.std.proofs.lemmas.Bool.{and_parts, cases_lt, false≢true}
use Rattle.std.proofs.lemmas.Grind.{common_steps}
use Rattle.std.proofs.lemmas.Fmt.{decimal_digit, decimal_nonempty, decimal_step, digits_decimal}
use Rattle.std.proofs.lemmas.Fmt.{digits_value-decimal, first_decimal}
use Rattle.texts.specs.Decimals.{is_digit, value_from}
use Rattle.texts.specs.DecimalLaws.{AllDigitBytes, model}
use Rattle.texts.proofs.Values.{value_grows}

-- a text that begins with no digit
abbrev pub BeginsNoDigit : List ℕ → Type 0
BeginsNoDigit [] = ⊤
BeginsNoDigit (b ∷ more) = is_digit b ≡ false

-- one digit more
pub digit_more : (n d : ℕ) (rest : List ℕ) → 0 < n → n * 10 + d < 2 ^ 64 → d < 10
    → decimal n ++ (48 + d) ∷ rest ≡ decimal (n * 10 + d) ++ rest
digit_more n d rest some small digit =
    let front : (n * 10 + d) / 10 ≡ n = omega arith in
    let last : (n * 10 + d) % 10 ≡ d = omega arith in
    let step : decimal (n * 10 + d) ≡ decimal n ++ (48 + d) ∷ [] =
    decimal_step (n * 10 + d) (omega arith) small
    ∙ ap (λ (m : ℕ). decimal m ++ (48 + (n * 10 + d) % 10) ∷ []) front
    ∙ ap (λ (m : ℕ). decimal n ++ (48 + m) ∷ []) last in
    sym (ap (λ (t : List ℕ). t ++ rest) step ∙ append_assoc (decimal n) ((48 + d) ∷ []) rest)

-- a digit alone
pub one_digit : (old : List ℕ) (d : ℕ) (rest : List ℕ) → (d < 10) × (old ≡ (48 + d) ∷ rest)
    → old ≡ decimal d ++ rest
one_digit old d rest h = h.1 ∙ ap (λ (t : List ℕ). t ++ rest) (sym (decimal_digit d h.0))

-- of the digits of m those after the ones that write n are left, and more after them
pub record GoesOn (n m : ℕ) (rest more : List ℕ) : Type 0 where
  pub digits : List ℕ
  pub all : AllDigitBytes digits
  pub stands : rest ≡ digits ++ more
  pub value : value_from n digits ≡ m

-- two texts that begin with a byte
first_byte : (b c : ℕ) (s t : List ℕ) → b ∷ s ≡ c ∷ t → (b ≡ c) × (s ≡ t)
first_byte b c s t is = (ap (λ (l : List ℕ). get_or l 0 0) is, cc)

-- a number begins with a digit
first_in : (ds more : List ℕ) → AllDigitBytes ds → 0 < length ds
    → (b : ℕ) × (t : List ℕ) × (is_digit b ≡ true) × (ds ++ more ≡ b ∷ t)
first_in [] more all some = absurd (omega (arith, some))
first_in (c ∷ cs) more all some = (c, cs ++ more, (and_parts (is_digit c) (list_all is_digit cs) all).0, refl)

pub first_digit : (m : ℕ) (more : List ℕ) → m < 2 ^ 64
    → (b : ℕ) × (t : List ℕ) × (is_digit b ≡ true) × (decimal m ++ more ≡ b ∷ t)
first_digit m more small = first_in (decimal m) more (digits_decimal model m small) (decimal_nonempty m small)

start_in : (ds : List ℕ) (d m : ℕ) (rest more : List ℕ) → AllDigitBytes ds → 0 < length ds
    → value_from 0 ds ≡ m → (48 + d) ∷ rest ≡ ds ++ more → GoesOn d m rest more
start_in [] d m rest more all some value is = absurd (omega (arith, some))
start_in (c ∷ cs) d m rest more all some value is =
    let parts = first_byte (48 + d) c rest (cs ++ more) is in
    let here : 0 * 10 + (c - 48) ≡ d = omega (arith, parts.0) in
    record {
      digits = cs;
      all = (and_parts (is_digit c) (list_all is_digit cs) all).1;
      stands = parts.1;
      value = sym (ap (λ (n : ℕ). value_from n cs) here) ∙ value;
    }

-- after the first digit of a number
pub start : (old : List ℕ) (d m : ℕ) (rest more : List ℕ) → old ≡ (48 + d) ∷ rest → m < 2 ^ 64
    → old ≡ decimal m ++ more → GoesOn d m rest more
start old d m rest more first small is =
    start_in (decimal m) d m rest more (digits_decimal model m small) (decimal_nonempty m small)
    (digits_value-decimal model m small) (sym first ∙ is)

-- the number whose first digit is 0
pub zero : (old : List ℕ) (m : ℕ) (rest more : List ℕ) → old ≡ 48 ∷ rest → m < 2 ^ 64
    → old ≡ decimal m ++ more → (0 ≡ m) × (rest ≡ more)
zero old m rest more first small is = elim (cases_lt 0 m) [
  | inl some ↦ absurd (omega (arith, first_decimal m some small, lead))
  | inr none ↦
      let nought : 0 ≡ m = omega (arith, none) in (
        nought,
        (first_byte 48 48 rest more (sym first ∙ is ∙ ap (λ (k : ℕ). decimal k ++ more) (sym nought)
            ∙ ap (λ (t : List ℕ). t ++ more) (decimal_digit 0 (omega arith)))).1,
      )
]
  where
    lead_in : (ds : List ℕ) → 0 < length ds → 48 ∷ rest ≡ ds ++ more → get_or ds 0 0 ≡ 48
    lead_in [] some e = absurd (omega (arith, some))
    lead_in (c ∷ cs) some e = sym (first_byte 48 c rest (cs ++ more) e).0

    lead : get_or (decimal m) 0 0 ≡ 48
    lead = lead_in (decimal m) (decimal_nonempty m small) (sym first ∙ is)

step_in : (ds : List ℕ) (n d m : ℕ) (rest more : List ℕ) → AllDigitBytes ds → is_digit (48 + d) ≡ true
    → BeginsNoDigit more → value_from n ds ≡ m → (48 + d) ∷ rest ≡ ds ++ more → GoesOn (n * 10 + d) m rest more
step_in [] n d m rest (b ∷ more) all digit other value is =
    absurd (false≢true (sym other ∙ ap is_digit (sym (first_byte (48 + d) b rest more is).0) ∙ digit))
step_in [] n d m rest [] all digit other value is = absurd (omega (arith, ap (λ (t : List ℕ). length t) is))
step_in (c ∷ cs) n d m rest more all digit other value is =
    let parts = first_byte (48 + d) c rest (cs ++ more) is in
    let here : n * 10 + (c - 48) ≡ n * 10 + d = omega (arith, parts.0) in
    record {
      digits = cs;
      all = (and_parts (is_digit c) (list_all is_digit cs) all).1;
      stands = parts.1;
      value = sym (ap (λ (k : ℕ). value_from k cs) here) ∙ value;
    }

-- a digit
a_digit : (d : ℕ) → d < 10 → is_digit (48 + d) ≡ true
a_digit d low = grind (arith, common_steps)

-- after one digit more
pub step : (n d m : ℕ) (now rest more : List ℕ) → d < 10 → now ≡ (48 + d) ∷ rest → BeginsNoDigit more
    → GoesOn n m now more → GoesOn (n * 10 + d) m rest more
step n d m now rest more low first other g =
    step_in g.digits n d m rest more g.all (a_digit d low) other g.value (sym first ∙ g.stands)

done_in : (ds : List ℕ) (n m : ℕ) (rest more : List ℕ) → AllDigitBytes ds → value_from n ds ≡ m
    → rest ≡ ds ++ more → ((b : ℕ) (t : List ℕ) → is_digit b ≡ true → rest ≡ b ∷ t → ⊥)
    → (n ≡ m) × (rest ≡ more)
done_in [] n m rest more all value is none = (value, is)
done_in (c ∷ cs) n m rest more all value is none =
    absurd (none c (cs ++ more) (and_parts (is_digit c) (list_all is_digit cs) all).0 is)

-- where no digit stands next, that was the number
pub done : (n m : ℕ) (rest more : List ℕ) → ((b : ℕ) (t : List ℕ) → is_digit b ≡ true → rest ≡ b ∷ t → ⊥)
    → GoesOn n m rest more → (n ≡ m) × (rest ≡ more)
done n m rest more none g = done_in g.digits n m rest more g.all g.value g.stands none

-- a number is no less than what its first digits write
pub least : (n m : ℕ) (rest more : List ℕ) → GoesOn n m rest more → n ≤ m
least n m rest more g = omega (arith, value_grows n g.digits, g.value)

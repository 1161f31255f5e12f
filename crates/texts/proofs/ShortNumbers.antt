-- The text of numbers of one to three digits, byte by byte.
use Rattle.std.proofs.Common.{◌≡◌, ◌<◌, ◌≤◌, ◌+◌, ◌*◌, ◌/◌, ◌%◌, ◌++◌, ℕ, List, [], ◌∷◌}
use Rattle.std.proofs.Common.{decimal, length, take, set, get_or, arith, ap, sym, ◌∙◌}
use Rattle.std.proofs.lemmas.Fmt.{decimal_digit, decimal_step}
use Rattle.std.proofs.lemmas.List.{append_assoc, length-set, take_more, take_more_set}
use Rattle.std.proofs.lemmas.List.Concat.{flat_map-append}
use Rattle.texts.specs.Numbers.{numbers_text}

-- two bytes written after the first ones
two_more : (xs : List ℕ) (i x y : ℕ) → i + 1 < length xs
    → take (i + 1 + 1) (set (set xs i x) (i + 1) y) ≡ take i xs ++ (x ∷ y ∷ [])
two_more xs i x y low =
    take_more_set (set xs i x) (i + 1) y (omega (arith, length-set xs i x))
    ∙ ap (λ (front : List ℕ). front ++ y ∷ []) (take_more_set xs i x (omega arith))
    ∙ append_assoc (take i xs) (x ∷ []) (y ∷ [])

-- three bytes written after the first ones
three_more : (xs : List ℕ) (i x y z : ℕ) → i + 2 < length xs
    → take (i + 3) (set (set (set xs i x) (i + 1) y) (i + 2) z) ≡ take i xs ++ (x ∷ y ∷ z ∷ [])
three_more xs i x y z low =
    let next : i + 3 ≡ i + 2 + 1 = omega arith in
    let second : i + 2 ≡ i + 1 + 1 = omega arith in
    let two : List ℕ = set (set xs i x) (i + 1) y in
    ap (λ (k : ℕ). take k (set two (i + 2) z)) next
    ∙ take_more_set two (i + 2) z (omega (arith, length-set (set xs i x) (i + 1) y, length-set xs i x))
    ∙ ap (λ (k : ℕ). take k two ++ z ∷ []) second
    ∙ ap (λ (front : List ℕ). front ++ z ∷ []) (two_more xs i x y (omega arith))
    ∙ append_assoc (take i xs) (x ∷ y ∷ []) (z ∷ [])

-- a number of one digit, of two and of three, written after the first bytes
pub one_digit : (xs : List ℕ) (i n : ℕ) → i < length xs → n < 10
    → take (i + 1) (set xs i (48 + n % 10)) ≡ take i xs ++ decimal n
one_digit xs i n low small =
    let same : n % 10 ≡ n = omega arith in
    take_more_set xs i (48 + n % 10) low
    ∙ ap (λ (d : ℕ). take i xs ++ (48 + d) ∷ []) same
    ∙ ap (λ (digits : List ℕ). take i xs ++ digits) (sym (decimal_digit n small))

pub two_digits : (xs : List ℕ) (i n : ℕ) → i + 1 < length xs → 10 ≤ n → n < 100
    → take (i + 2) (set (set xs i (48 + n / 10 % 10)) (i + 1) (48 + n % 10)) ≡ take i xs ++ decimal n
two_digits xs i n low some small =
    let next : i + 2 ≡ i + 1 + 1 = omega arith in
    let tens : n / 10 % 10 ≡ n / 10 = omega arith in
    let text : decimal n ≡ (48 + n / 10) ∷ (48 + n % 10) ∷ [] =
    decimal_step n some (omega arith)
    ∙ ap (λ (digits : List ℕ). digits ++ (48 + n % 10) ∷ []) (decimal_digit (n / 10) (omega arith)) in
    ap (λ (k : ℕ). take k (set (set xs i (48 + n / 10 % 10)) (i + 1) (48 + n % 10))) next
    ∙ two_more xs i (48 + n / 10 % 10) (48 + n % 10) low
    ∙ ap (λ (d : ℕ). take i xs ++ (48 + d) ∷ (48 + n % 10) ∷ []) tens
    ∙ ap (λ (digits : List ℕ). take i xs ++ digits) (sym text)

pub three_digits : (xs : List ℕ) (i n : ℕ) → i + 2 < length xs → 100 ≤ n → n < 1000
    → take (i + 3) (set (set (set xs i (48 + n / 100)) (i + 1) (48 + n / 10 % 10)) (i + 2) (48 + n % 10))
    ≡ take i xs ++ decimal n
three_digits xs i n low some small =
    let hundreds : n / 10 / 10 ≡ n / 100 = omega arith in
    let text : decimal n ≡ (48 + n / 10 / 10) ∷ (48 + n / 10 % 10) ∷ (48 + n % 10) ∷ [] =
    decimal_step n (omega arith) (omega arith)
    ∙ ap (λ (digits : List ℕ). digits ++ (48 + n % 10) ∷ [])
    (decimal_step (n / 10) (omega arith) (omega arith)
    ∙ ap (λ (digits : List ℕ). digits ++ (48 + n / 10 % 10) ∷ [])
    (decimal_digit (n / 10 / 10) (omega arith))) in
    three_more xs i (48 + n / 100) (48 + n / 10 % 10) (48 + n % 10) low
    ∙ ap (λ (d : ℕ). take i xs ++ (48 + d) ∷ (48 + n / 10 % 10) ∷ (48 + n % 10) ∷ []) (sym hundreds)
    ∙ ap (λ (digits : List ℕ). take i xs ++ digits) (sym text)

-- the text of one number more
text_more : (numbers : List ℕ) (i : ℕ) → i < length numbers → get_or numbers i 0 < 10
    → numbers_text (take (i + 1) numbers) ≡ numbers_text (take i numbers)
    ++ (32 ∷ (48 + get_or numbers i 0) ∷ [])
text_more numbers i low digit =
    ap numbers_text (take_more numbers i 0 low)
    ∙ flat_map-append (λ n. 32 ∷ decimal n) (take i numbers) (get_or numbers i 0 ∷ [])
    ∙ ap (λ (digits : List ℕ). numbers_text (take i numbers) ++ 32 ∷ (digits ++ []))
    (decimal_digit (get_or numbers i 0) digit)

-- a space and a digit written after the text of the numbers before
pub digit_more : (places numbers : List ℕ) (i : ℕ) → i < length numbers → length places ≡ 2 * length numbers
    → get_or numbers i 0 < 10 → take (2 * i) places ≡ numbers_text (take i numbers)
    → take (2 * (i + 1)) (set (set places (2 * i) 32) (2 * i + 1) (48 + get_or numbers i 0))
    ≡ numbers_text (take (i + 1) numbers)
digit_more places numbers i low room digit before =
    let n = get_or numbers i 0 in
    let next : 2 * (i + 1) ≡ 2 * i + 1 + 1 = omega arith in
    ap (λ (k : ℕ). take k (set (set places (2 * i) 32) (2 * i + 1) (48 + n))) next
    ∙ two_more places (2 * i) 32 (48 + n) (omega arith)
    ∙ ap (λ (front : List ℕ). front ++ (32 ∷ (48 + n) ∷ [])) before
    ∙ sym (text_more numbers i low digit)

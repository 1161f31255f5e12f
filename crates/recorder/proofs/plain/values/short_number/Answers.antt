use Rattle.std.proofs.Common.{◌≡◌, ◌≤◌, ◌+◌, ◌-◌, ◌*◌, ◌^◌, ◌++◌, ◌∷◌, ℕ, zero, suc, List, decimal, drop, get_or}
use Rattle.std.proofs.Common.{arith, ap, ◌∙◌}
use Rattle.std.proofs.lemmas.List.{drop_more}
use Rattle.texts.proofs.DigitLemmas.{digit_more, one_digit}
use Rattle.recorder.proofs.plain.values.short_number.Goals as goal

-- the next power of ten
next_ten : (k : ℕ) → 10 ^ (k + 1) ≡ 10 * 10 ^ k
next_ten k = let next : k + 1 ≡ suc k = omega arith in ap (λ (j : ℕ). 10 ^ j) next ∙ omega arith

-- powers of ten grow
tens : (k j : ℕ) → 10 ^ k ≤ 10 ^ (k + j)
tens k zero = let same : k + 0 ≡ k = omega arith in omega (arith, ap (λ (i : ℕ). 10 ^ i) same)
tens k (suc j) =
    let next : k + suc j ≡ k + j + 1 = omega arith in
    omega (arith, ap (λ (i : ℕ). 10 ^ i) next, next_ten (k + j), tens k j)

pub loop-size-init : goal.loop-size-init
loop-size-init c =
    let bytes = c.args.bytes.now in
    let first : ℕ = get_or bytes 0 0 in
    let digit = c.if-not-is_ascii_digit.ensures.cases in
    let is : first ≡ 48 + (first - 48) = omega (arith, digit) in
    record {
      some = omega (arith, digit, c.if-first-eq48.false);
      small = omega (arith, digit);
      digits = one_digit bytes (get_or bytes 0 0 - 48) (drop 1 bytes) (
        omega (arith, digit),
        drop_more bytes 0 0 (omega (arith, c.requires)) ∙ ap (λ (b : ℕ). b ∷ drop 1 bytes) is,
      );
    }

pub loop-size-preserved : goal.loop-size-preserved
loop-size-preserved c =
    let bytes = c.args.bytes.now in
    let i = c.loop-size.size in
    let n = c.loop-size.n in
    let was = c.loop-size.invariant in
    let byte : ℕ = get_or bytes i 0 in
    let digit = c.if-not-is_ascii_digit-2.ensures.cases in
    let is : byte ≡ 48 + (byte - 48) = omega (arith, digit) in
    let up : i + (8 - i) ≡ 8 = omega (arith, c.loop-size-test.true) in
    let most : 10 ^ i ≤ 10 ^ 8 = omega (arith, tens i (8 - i), ap (λ (k : ℕ). 10 ^ k) up) in
    record {
      some = omega (arith, was.some);
      small = omega (arith, digit, was.small, next_ten i);
      digits = was.digits
          ∙ ap (λ (t : List ℕ). decimal n ++ t) (drop_more bytes i 0 (omega (arith, c.requires, c.loop-size-test.true))
          ∙ ap (λ (b : ℕ). b ∷ drop (i + 1) bytes) is)
          ∙ digit_more n (get_or bytes i 0 - 48) (drop (i + 1) bytes) was.some (omega (arith, was.small, most, digit))
          (omega (arith, digit));
    }

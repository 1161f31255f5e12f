-- What is left of a number.
use Rattle.std.proofs.Common.{◌≡◌, ℕ, suc, ◌+◌, ◌*◌, ◌-◌, ◌%◌, ◌<◌, ◌≤◌, ◌/◌, ◌^◌, ◌∙◌, ap, sym, arith}
use Rattle.std.proofs.lemmas.Nat.{mod-mul-add}
use Rattle.std.proofs.Math.Nat.{div-mul-le_self, mod-le, mul-le-mul_right}

-- what is left after some times a number is the remainder, if it is below that number
pub rest_is : (word number times rest : ℕ) → rest + times * number ≡ word → rest < number
    → rest ≡ word % number
rest_is word number times rest h small =
    sym (ap (λ (n : ℕ). n % number) (sym h ∙ omega arith) ∙ mod-mul-add times number rest small)

-- also where it is taken once more
pub next_is : (word number times rest : ℕ) → rest + times * number ≡ word → number ≤ rest
    → rest - number < number → rest - number ≡ word % number
next_is word number times rest h more small =
    sym (ap (λ (n : ℕ). n % number) (sym h ∙ omega (arith, more))
    ∙ mod-mul-add (suc times) number (rest - number) small)

-- a word has its share of 2^64 times a number, if that is as many times in 2^64
pub times_within : (word share number : ℕ) → share * number ≤ 2 ^ 64
    → word * share % 2 ^ 128 / 2 ^ 64 * number ≤ word
times_within word share number few =
    let product : ℕ = word * share % 2 ^ 128 in
    let times : ℕ = product / 2 ^ 64 in
    let part : product ≤ word * share = mod-le (word * share) (2 ^ 128) in
    let whole : times * 2 ^ 64 ≤ product = div-mul-le_self product (2 ^ 64) in
    let first : times * 2 ^ 64 * number ≤ word * share * number = mul-le-mul_right number (omega (arith, part, whole)) in
    let second : share * number * word ≤ 2 ^ 64 * word = mul-le-mul_right word few in
    omega (arith, first, second)

-- Reading one digit more.
use Rattle.std.proofs.Common.{◌≡◌, ℕ, ◌+◌, ◌-◌, ◌*◌, ◌^◌, ◌<◌, ◌≤◌, List, [], ◌∷◌, length, drop, get_or, refl}
use Rattle.std.proofs.Common.{arith, add-one, drop-cons}
use Rattle.texts.specs.Decimals.{value_from}

-- digits never make a number smaller
pub value_grows : (n : ℕ) (text : List ℕ) → n ≤ value_from n text
value_grows n [] = omega arith
value_grows n (b ∷ bs) = let later = value_grows (n * 10 + (b - 48)) bs in omega (arith, later)

-- the value with one digit more
pub value_more : (n i : ℕ) (text : List ℕ) → i < length text →
    value_from n (drop i text) ≡ value_from (n * 10 + (get_or text i 0 - 48)) (drop (i + 1) text)
value_more n i text within = rw (drop-cons text i 0 within, add-one) refl

-- a number that is too large stays too large
pub value_large : (n i : ℕ) (text : List ℕ) → i < length text →
    2 ^ 32 ≤ n * 10 + (get_or text i 0 - 48) → 2 ^ 32 ≤ value_from n (drop i text)
value_large n i text within large =
    let later = value_grows (n * 10 + (get_or text i 0 - 48)) (drop (i + 1) text) in
    rw (value_more n i text within) (omega (arith, later, large))

-- Laws of tests on lists, and of what they tell.
use Rattle.std.proofs.Common.{◌≡◌, ℕ, ◌<◌, not, List, [], ◌∷◌, ◌++◌, length, Bool, true, false, cond, Some}
use Rattle.std.proofs.Common.{None, Option, Result, Ok, Err}
use Rattle.std.proofs.Common.{refl, arith, position, inl, inr, ◌⊎◌}
use Rattle.std.specs.Prelude.{option_and_then}
use Rattle.std.specs.List.{list_all, position_or_len}
use Rattle.std.proofs.lemmas.Bool.{false≢true, lt-ltb, cond-true, and_parts}
use Rattle.std.proofs.lemmas.List.{length-append}

-- a negation that is true
pub not_true : (b : Bool) → not b ≡ true → b ≡ false
not_true true e = absurd (false≢true e)
not_true false e = refl

-- which branch gave the answer
pub cases_of : {A : Type 0} (b : Bool) (x y z : A) → cond b x y ≡ z →
    ((b ≡ true) × (x ≡ z)) ⊎ ((b ≡ false) × (y ≡ z))
cases_of true x y z e = inl (refl, e)
cases_of false x y z e = inr (refl, e)

-- two answers that are one have one value
pub same_ok : {A E : Type 0} (x y : A) → (let r : Result A E = Ok x in r) ≡ Ok y → x ≡ y
same_ok x y e = cc

-- a fault is no answer
pub no_ok : {A E : Type 0} (f : E) (y : A) → (let r : Result A E = Err f in r) ≡ Ok y → ⊥
no_ok f y e = cc

-- both steps of a chain gave something
pub bind_some : {A B : Type 0} (o : Option A) (f : A → Option B) (y : B) → option_and_then f o
    ≡ Some y → (x : A) × (o ≡ Some x) × (f x ≡ Some y)
bind_some (Some x) f y e = (x, refl, e)
bind_some None f y e = absurd cc

-- each element that passes p passes q
pub all_also : (p q : ℕ → Bool) → ((b : ℕ) → p b ≡ true → q b ≡ true) → (xs : List ℕ) →
    list_all p xs ≡ true → list_all q xs ≡ true
all_also p q h [] e = refl
all_also p q h (x ∷ xs) e = let both = and_parts (p x) (list_all p xs) e in rw (h x both.0)
    (all_also p q h xs both.1)

-- the first place that passes stands after those that don't
pub first_after : (p : ℕ → Bool) (xs ys : List ℕ) → list_all (λ b. not (p b)) xs ≡ true →
    position_or_len p ys ≡ 0 → position_or_len p (xs ++ ys) ≡ length xs
first_after p [] ys all first = first
first_after p (x ∷ xs) ys all first =
    let both = and_parts (not (p x)) (list_all (λ b. not (p b)) xs) all in
    let later = first_after p xs ys both.1 first in rw both.0 (omega (arith, later))

-- the place of the first that passes, after those that don't
pub first_place : (p : ℕ → Bool) (xs ys : List ℕ) (y : ℕ) → list_all (λ b. not (p b)) xs ≡ true → p y
    ≡ true → position p (xs ++ y ∷ ys) ≡ Some (length xs)
first_place p xs ys y all here =
    let first : position_or_len p (y ∷ ys) ≡ 0 = rw here refl in
    let at = first_after p xs (y ∷ ys) all first in
    let within : length xs < length (xs ++ y ∷ ys) = omega (arith, length-append xs (y ∷ ys)) in
    rw at (cond-true _ (Some (length xs)) None (lt-ltb _ _ within))

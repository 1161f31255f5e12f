-- What one item more does to what is counted of a list.
use Rattle.std.proofs.Common.{◌≡◌, ◌+◌, ◌++◌, ◌∷◌, ◌||◌, inl, inr, ℕ, Bool, true, false, not, List, [], Some, drop}
use Rattle.std.proofs.Common.{length, slice_get}
use Rattle.std.proofs.Common.{cond, add-one, arith, drop-cons, refl, ap}
use Rattle.std.specs.Prelude.{count_by}
use Rattle.std.specs.List.{list_any, prefix_len}
use Rattle.std.proofs.lemmas.Bool.{cases_Bool}
use Rattle.std.proofs.lemmas.List.Sums.{fold-append, sum_by-cons}
use Rattle.std.proofs.lemmas.Option.{slice_get_within, get_or_from_slice_get}

module _ {X : Type 0} (p : X → Bool) where
  -- one item more counts if it passes
  pub count_more : (xs : List X) (x : X) → count_by p (xs ++ x ∷ []) ≡ count_by p xs + cond (p x) 1 0
  count_more xs x = fold-append (λ (n : ℕ) (y : X). n + cond (p y) 1 0) 0 xs (x ∷ [])

  -- where none passes, the count is 0
  pub count_none : (xs : List X) → list_any p xs ≡ false → count_by p xs ≡ 0
  count_none [] none = refl
  count_none (y ∷ xs) none = elim (cases_Bool (p y)) [
    | inl hit ↦ let clash : true ≡ false = rw hit at none in absurd cc
    | inr miss ↦
        let more : ◌≡◌ {A = ℕ} (count_by p (y ∷ xs)) (cond (p y) 1 0 + count_by p xs) = sum_by-cons (λ z. cond (p z) 1 0) y xs in
        let rest : count_by p xs ≡ 0 = count_none xs (rw miss at none) in
        let mine : ◌≡◌ {A = ℕ} (cond (p y) 1 0) 0 = rw miss refl in
        omega (arith, more, rest, mine)
  ]

  -- one item more passes, or those before do
  pub any_more : (xs : List X) (x : X) → list_any p (xs ++ x ∷ []) ≡ (list_any p xs || p x)
  any_more [] x = elim (cases_Bool (p x)) [
    | inl hit ↦ rw hit refl
    | inr miss ↦ rw miss refl
  ]
  any_more (y ∷ xs) x = elim (cases_Bool (p y)) [
    | inl hit ↦ rw hit refl
    | inr miss ↦ rw miss (any_more xs x)
  ]

  -- the place of the first that passes is that of before, where there was one
  pub first_stays : (xs : List X) (x : X) → list_any p xs ≡ true
      → prefix_len (λ y. not (p y)) (xs ++ x ∷ []) ≡ prefix_len (λ y. not (p y)) xs
  first_stays [] x some = absurd cc
  first_stays (y ∷ xs) x some = elim (cases_Bool (p y)) [
    | inl hit ↦ rw hit refl
    | inr miss ↦ rw miss (ap (λ n. 1 + n) (first_stays xs x (rw miss at some)))
  ]

  -- else it is the last
  pub first_comes : (xs : List X) (x : X) → list_any p xs ≡ false → p x ≡ true
      → prefix_len (λ y. not (p y)) (xs ++ x ∷ []) ≡ length xs
  first_comes [] x none passes = rw passes refl
  first_comes (y ∷ xs) x none passes = elim (cases_Bool (p y)) [
    | inl hit ↦ let clash : true ≡ false = rw hit at none in absurd cc
    | inr miss ↦ rw miss (omega (arith, first_comes xs x (rw miss at none) passes))
  ]

-- where each that passes a test passes another, and none passes that, none passes the first
pub none_of_fewer : {X : Type 0} (p q : X → Bool) → ((x : X) → q x ≡ false → p x ≡ false) → (xs : List X)
    → list_any q xs ≡ false → list_any p xs ≡ false
none_of_fewer p q fewer [] none = refl
none_of_fewer p q fewer (y ∷ xs) none = elim (cases_Bool (q y)) [
  | inl hit ↦ let clash : true ≡ false = rw hit at none in absurd cc
  | inr miss ↦ rw (fewer y miss) (none_of_fewer p q fewer xs (rw miss at none))
]

-- a list from an index on begins with the item there
pub from_index : {X : Type 0} (xs : List X) (i : ℕ) (x : X) → slice_get xs i ≡ Some x
    → drop i xs ≡ x ∷ drop (i + 1) xs
from_index xs i x here = rw (
  drop-cons xs i x (slice_get_within xs i x here),
  get_or_from_slice_get xs i x x here,
  add-one,
) refl

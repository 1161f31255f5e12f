-- Final values that stay known.
use Rattle.std.proofs.Common.{◌≡◌, ◌<◌, ◌+◌, inl, inr, ℕ, Bool, Option, Some, None, List, [], ◌∷◌, ◌++◌, length, get_or}
use Rattle.std.proofs.Common.{arith}
use Rattle.std.proofs.Common.{sym, subst, ◌∙◌, length-append}
use Rattle.std.proofs.lemmas.Bool.{cases_lt}
use Rattle.std.proofs.lemmas.List.{get_or_append_left, get_or_push}
use Rattle.values.specs.Values.{Values, known_final}
use Rattle.completion.specs.Left.{IsInRow}
use Rattle.completion.specs.Part.{CanEnd}
use Rattle.completion.proofs.Finals.{known_past}

-- the final value of an address more, where it stays known
pub finals_kept : (v : Values) (row : List Bool) (xs : List (Option ℕ)) (i : ℕ) (y : Option ℕ) → length xs ≡ i
    → ((a n : ℕ) → a < i → known_final v a ≡ Some n → CanEnd v (IsInRow row) a n → get_or xs a None ≡ Some n)
    → ((n : ℕ) → known_final v i ≡ Some n → CanEnd v (IsInRow row) i n → y ≡ Some n)
    → (a n : ℕ) → a < i + 1 → known_final v a ≡ Some n → CanEnd v (IsInRow row) a n
    → get_or (xs ++ y ∷ []) a None ≡ Some n
finals_kept v row xs i y size before here a n less known can = elim (cases_lt a i) [
  | inl first ↦ get_or_append_left xs (y ∷ []) None a (omega (arith, first, size)) ∙ before a n first known can
  | inr last ↦
      let at : a ≡ i = omega (arith, less, last) in
      get_or_push xs y None a (omega (arith, size, at))
      ∙ here n (subst (λ (k : ℕ). known_final v k ≡ Some n) at known)
      (subst (λ (k : ℕ). CanEnd v (IsInRow row) k n) at can)
]

-- and where a final value is known, it was, and can be written
pub finals_gone : (v : Values) (row : List Bool) (xs : List (Option ℕ)) (i : ℕ) (y : Option ℕ) → length xs ≡ i
    → ((a n : ℕ) → get_or xs a None ≡ Some n → (known_final v a ≡ Some n) × CanEnd v (IsInRow row) a n)
    → ((n : ℕ) → y ≡ Some n → (known_final v i ≡ Some n) × CanEnd v (IsInRow row) i n)
    → (a n : ℕ) → get_or (xs ++ y ∷ []) a None ≡ Some n → (known_final v a ≡ Some n) × CanEnd v (IsInRow row) a n
finals_gone v row xs i y size before here a n known = elim (cases_lt a i) [
  | inl first ↦ before a n (sym (get_or_append_left xs (y ∷ []) None a (omega (arith, first, size))) ∙ known)
  | inr last ↦ elim (cases_lt i a) [
    | inl past ↦ absurd (omega (
      arith,
      known_past (xs ++ y ∷ []) a n (omega (arith, length-append xs (y ∷ []), past, size)) known,
    ))
    | inr one ↦
        let at : i ≡ a = omega (arith, last, one) in
        subst (λ (k : ℕ). (known_final v k ≡ Some n) × CanEnd v (IsInRow row) k n) at
        (here n (sym (get_or_push xs y None a (omega (arith, size, at))) ∙ known))
  ]
]

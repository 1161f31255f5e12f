-- Lists of pairs, by their first events.
use Rattle.std.proofs.Common.{◌≡◌, ◌≢◌, ◌<◌, ◌+◌, ◌⊎◌, inl, inr, ℕ, zero, suc, List, [], ◌∷◌, ◌++◌}
use Rattle.std.proofs.Common.{get_or, drop, take, length, arith, refl, sym, ap, subst, ◌∙◌}
use Rattle.std.proofs.lemmas.Bool.{cases_eq, cases_lt}
use Rattle.std.proofs.lemmas.Bool.Decides.{nat_tests}
use Rattle.std.proofs.lemmas.List.{drop_more, take_more}
use Rattle.recording.specs.Order.{times}
use Rattle.recording.specs.OrderLaws.{times_append, times_here, times_there, times_nil}
use Rattle.long.specs.Chains.{seconds_in, times_listed, HaveFirstsBelow}

-- no pair at first
pub listed_none : (e : ℕ) → seconds_in [] e ≡ []
unfolding seconds_in
listed_none e = refl

-- a pair of e is put before the others
pub listed_here : (pairs : List (ℕ × ℕ)) (p : ℕ × ℕ) (e : ℕ) → p.0 ≡ e
    → seconds_in (p ∷ pairs) e ≡ p.1 ∷ seconds_in pairs e
unfolding seconds_in
listed_here pairs p e h = grind (arith, nat_tests)

-- one of another is not
pub listed_there : (pairs : List (ℕ × ℕ)) (p : ℕ × ℕ) (e : ℕ) → p.0 ≢ e
    → seconds_in (p ∷ pairs) e ≡ seconds_in pairs e
unfolding seconds_in
listed_there pairs p e h = grind (arith, nat_tests)

-- lists one after the other
pub listed_append : (xs ys : List (ℕ × ℕ)) (e : ℕ) → seconds_in (xs ++ ys) e ≡ seconds_in xs e ++ seconds_in ys e
listed_append [] ys e = ap (λ (s : List ℕ). s ++ seconds_in ys e) (sym (listed_none e))
listed_append (x ∷ xs) ys e = elim (cases_eq x.0 e) [
  | inl here ↦
      listed_here (xs ++ ys) x e here
      ∙ ap (λ (s : List ℕ). x.1 ∷ s) (listed_append xs ys e)
      ∙ ap (λ (s : List ℕ). s ++ seconds_in ys e) (sym (listed_here xs x e here))
  | inr there ↦
      listed_there (xs ++ ys) x e there
      ∙ listed_append xs ys e
      ∙ ap (λ (s : List ℕ). s ++ seconds_in ys e) (sym (listed_there xs x e there))
]

-- how often pairs stand in a list with one more at its end
pub times_put : (xs : List (ℕ × ℕ)) (p : ℕ × ℕ) (d e : ℕ)
    → times_listed (xs ++ p ∷ []) d e ≡ times_listed xs d e + times_listed (p ∷ []) d e
times_put xs p d e =
    ap (λ (s : List ℕ). times s e) (listed_append xs (p ∷ []) d)
    ∙ times_append (seconds_in xs d) (seconds_in (p ∷ []) d) e

-- no pair stands in no list
pub times_none : (xs : List (ℕ × ℕ)) → xs ≡ [] → (d e : ℕ) → times_listed xs d e ≡ 0
times_none xs is d e =
    ap (λ (ps : List (ℕ × ℕ)). times_listed ps d e) is
    ∙ ap (λ (s : List ℕ). times s e) (listed_none d)
    ∙ times_nil e

-- a pair alone stands once
pub times_alone : (d e : ℕ) → times_listed ((d, e) ∷ []) d e ≡ 1
times_alone d e = omega (
  arith,
  ap (λ (s : List ℕ). times s e) (listed_here [] (d, e) d refl),
  times_here (seconds_in [] d) e e refl,
  ap (λ (s : List ℕ). times s e) (listed_none d),
  times_nil e,
)

-- and no other
pub times_alone_only : (P : ℕ → ℕ → Type 0) (a b : ℕ) → P a b → (d e : ℕ)
    → 0 < times_listed ((a, b) ∷ []) d e → P d e
times_alone_only P a b one d e some = elim (cases_eq a d) [
  | inr apart ↦ absurd (omega (
    arith,
    some,
    ap (λ (s : List ℕ). times s e) (listed_there [] (a, b) d apart ∙ listed_none d),
    times_nil e,
  ))
  | inl first ↦ elim (cases_eq b e) [
    | inr apart ↦ absurd (omega (
      arith,
      some,
      ap (λ (s : List ℕ). times s e) (listed_here [] (a, b) d first),
      times_there (seconds_in [] d) b e apart,
      ap (λ (s : List ℕ). times s e) (listed_none d),
      times_nil e,
    ))
    | inl second ↦ subst (λ (k : ℕ). P k e) first (subst (λ (k : ℕ). P a k) second one)
  ]
]

-- what is put stays
pub put_keeps : (xs : List (ℕ × ℕ)) (p : ℕ × ℕ) (d e : ℕ) → 0 < times_listed xs d e
    → 0 < times_listed (xs ++ p ∷ []) d e
put_keeps xs p d e some = omega (arith, some, times_put xs p d e)

-- and is there
pub put_stands : (xs : List (ℕ × ℕ)) (d e : ℕ) → 0 < times_listed (xs ++ (d, e) ∷ []) d e
put_stands xs d e = omega (arith, times_put xs (d, e) d e, times_alone d e)

-- what holds of each pair holds with one more
pub put_each : (P : ℕ → ℕ → Type 0) (xs : List (ℕ × ℕ)) (a b : ℕ) → ((d e : ℕ) → 0 < times_listed xs d e → P d e)
    → P a b → (d e : ℕ) → 0 < times_listed (xs ++ (a, b) ∷ []) d e → P d e
put_each P xs a b all one d e some = elim (cases_lt 0 (times_listed xs d e)) [
  | inl old ↦ all d e old
  | inr new ↦ times_alone_only P a b one d e (omega (arith, some, new, times_put xs (a, b) d e))
]

-- a pair that stands at a place stands in the list
pub listed_at : (xs : List (ℕ × ℕ)) (i : ℕ) → i < length xs
    → 0 < times_listed xs (get_or xs i (0, 0)).0 (get_or xs i (0, 0)).1
listed_at [] i low = absurd (omega (arith, low))
listed_at (x ∷ xs) zero low = omega (
  arith,
  ap (λ (s : List ℕ). times s x.1) (listed_here xs x x.0 refl),
  times_here (seconds_in xs x.0) x.1 x.1 refl,
)
listed_at (x ∷ xs) (suc i) low =
    let p : ℕ × ℕ = get_or xs i (0, 0) in
    let rest : 0 < times_listed xs p.0 p.1 = listed_at xs i (omega (arith, low)) in
    elim (cases_eq x.0 p.0) [
      | inr apart ↦ omega (arith, rest, ap (λ (s : List ℕ). times s p.1) (listed_there xs x p.0 apart))
      | inl here ↦ elim (cases_eq x.1 p.1) [
        | inl both ↦ omega (
          arith,
          ap (λ (s : List ℕ). times s p.1) (listed_here xs x p.0 here),
          times_here (seconds_in xs p.0) x.1 p.1 both,
        )
        | inr other ↦ omega (
          arith,
          rest,
          ap (λ (s : List ℕ). times s p.1) (listed_here xs x p.0 here),
          times_there (seconds_in xs p.0) x.1 p.1 other,
        )
      ]
    ]

-- as many pairs as before it, and itself, stand in the list as far as the next place
pub times_more : (xs : List (ℕ × ℕ)) (i : ℕ) → i < length xs → (d e : ℕ) → times_listed (take (i + 1) xs) d e
    ≡ times_listed (take i xs) d e + times_listed (get_or xs i (0, 0) ∷ []) d e
times_more xs i low d e =
    ap (λ (ps : List (ℕ × ℕ)). times_listed ps d e) (take_more xs i (0, 0) low)
    ∙ times_put (take i xs) (get_or xs i (0, 0)) d e

-- its first event is below n, as all are
pub first_below : (xs : List (ℕ × ℕ)) (i n : ℕ) → i < length xs → HaveFirstsBelow xs n → (get_or xs i (0, 0)).0 < n
first_below xs i n low firsts = firsts (get_or xs i (0, 0)).0 (get_or xs i (0, 0)).1 (listed_at xs i low)

-- and its second one, as all are
pub second_below : (xs : List (ℕ × ℕ)) (i n : ℕ) → i < length xs → ((e f : ℕ) → 0 < times_listed xs e f → f < n)
    → (get_or xs i (0, 0)).1 < n
second_below xs i n low seconds = seconds (get_or xs i (0, 0)).0 (get_or xs i (0, 0)).1 (listed_at xs i low)

-- what holds of the pair at a place holds of each from there on, or it stands after the place
pub walk_each : (P : ℕ → ℕ → Type 0) (xs : List (ℕ × ℕ)) (i : ℕ) → i < length xs
    → P (get_or xs i (0, 0)).0 (get_or xs i (0, 0)).1 → (d e : ℕ) → 0 < times_listed (drop i xs) d e
    → (0 < times_listed (drop (i + 1) xs) d e) ⊎ P d e
walk_each P xs i low one d e some =
    let p : ℕ × ℕ = get_or xs i (0, 0) in
    let rest : List (ℕ × ℕ) = drop (i + 1) xs in
    elim (cases_lt 0 (times_listed rest d e)) [
      | inl after ↦ inl after
      | inr none ↦ inr (times_alone_only P p.0 p.1 one d e (omega (
        arith,
        some,
        none,
        ap (λ (ps : List (ℕ × ℕ)). times_listed ps d e) (drop_more xs i (0, 0) low),
        ap (λ (s : List ℕ). times s e) (listed_append (get_or xs i (0, 0) ∷ []) rest d),
        times_append (seconds_in (get_or xs i (0, 0) ∷ []) d) (seconds_in rest d) e,
      )))
    ]

-- Rows of pairs, of which one changes.
use Rattle.std.proofs.Common.{◌≡◌, ◌<◌, ◌==◌, ◌||◌, ◌⊎◌, inl, inr, ℕ, zero, suc, Bool, true, false, List, [], ◌∷◌, ◌++◌}
use Rattle.std.proofs.Common.{length, get_or, slice_set, arith, refl, sym, ap, subst, ◌∙◌, get_or-set_same}
use Rattle.std.proofs.Common.{get_or-set_other}
use Rattle.std.proofs.Common.{length-set}
use Rattle.std.proofs.Common.{take, drop}
use Rattle.std.proofs.lemmas.List.{drop_all, take_all, append-nil}
use Rattle.std.proofs.lemmas.Bool.{cases_eq, eqb-true}
use Rattle.bitrow.specs.Bits.{is_in}
use Rattle.values.specs.Values.{Values}
use Rattle.completion.specs.Pairs.{IsSquare}
use Rattle.completion.specs.declared.cause.Link.{Link}
use Rattle.completion.specs.Inferred.{IsShown, IsLink, AreShown}
use Rattle.completion.proofs.Shown.{shown_through, shown_by}

-- rows stay square
pub set_square : (rows : List (List Bool)) (e : ℕ) (row : List Bool) → IsSquare rows → length row ≡ length rows
    → IsSquare (slice_set rows e row)
set_square rows e row square size i inside =
    let there : i < length rows = omega (arith, inside, length-set rows e row) in
    elim (cases_eq i e) [
      | inl one ↦
          ap (λ (k : ℕ). length (get_or (slice_set rows e row) k [])) one
          ∙ (ap (λ (l : List Bool). length l) (get_or-set_same rows e row [] (omega (arith, there, one)))
          ∙ (size ∙ sym (length-set rows e row)))
      | inr other ↦
          ap (λ (l : List Bool). length l) (get_or-set_other rows e i row [] other)
          ∙ (square i there ∙ sym (length-set rows e row))
    ]

-- and their pairs shown
pub set_shown : (v : Values) (rows : List (List Bool)) (e : ℕ) (row : List Bool) → e < length rows
    → AreShown v rows → ((f : ℕ) → is_in row f ≡ true → IsShown v e f) → AreShown v (slice_set rows e row)
set_shown v rows e row there old new i f has = elim (cases_eq i e) [
  | inl one ↦
      let same : get_or (slice_set rows e row) i [] ≡ row =
      ap (λ (k : ℕ). get_or (slice_set rows e row) k []) one ∙ get_or-set_same rows e row [] there in
      subst (λ (k : ℕ). IsShown v k f) (sym one) (new f (sym (ap (λ (l : List Bool). is_in l f) same) ∙ has))
  | inr other ↦ old i f (sym (ap (λ (l : List Bool). is_in l f) (get_or-set_other rows e i row [] other)) ∙ has)
]

-- a number in one of two sets
in_either : (a b : Bool) → (a || b) ≡ true → (a ≡ true) ⊎ (b ≡ true)
in_either true b h = inl refl
in_either false b h = inr h

-- a number more in a row
pub put_shown : (v : Values) (rows : List (List Bool)) (e f : ℕ) (row : List Bool) → e < length rows
    → ((j : ℕ) → is_in row j ≡ (is_in (get_or rows e []) j || (j == f))) → AreShown v rows → IsShown v e f
    → AreShown v (slice_set rows e row)
put_shown v rows e f row there numbers old new = set_shown v rows e row there old (λ j has.
    elim (in_either (is_in (get_or rows e []) j) (j == f) (sym (numbers j) ∙ has)) [
      | inl before ↦ old e j before
      | inr one ↦ subst (λ (k : ℕ). IsShown v e k) (sym (eqb-true j f one)) new
    ])

-- a row joined to that of an event before its middle
pub join_shown : (v : Values) (rows : List (List Bool)) (e middle : ℕ) (later row : List Bool) → e < length rows
    → is_in (get_or rows e []) middle ≡ true
    → ((j : ℕ) → is_in row j ≡ (is_in (get_or rows e []) j || is_in later j)) → AreShown v rows
    → ((f : ℕ) → is_in later f ≡ true → IsShown v middle f) → AreShown v (slice_set rows e row)
join_shown v rows e middle later row there before numbers old new = set_shown v rows e row there old (λ j has.
    elim (in_either (is_in (get_or rows e []) j) (is_in later j) (sym (numbers j) ∙ has)) [
      | inl one ↦ old e j one
      | inr after ↦ shown_through v e middle j (old e middle before) (new j after)
    ])

-- no pairs
pub none_shown : (v : Values) (rows : List (List Bool)) → ((i j : ℕ) → is_in (get_or rows i []) j ≡ false)
    → AreShown v rows
none_shown v rows none e f has = let clash : false ≡ true = sym (none e f) ∙ has in absurd cc

-- a row more without a number
pub more_none : (rows : List (List Bool)) (row : List Bool) (n : ℕ) → ((i j : ℕ) → is_in (get_or rows i []) j ≡ false)
    → ((i : ℕ) → i < length rows → length (get_or rows i []) ≡ n) → ((j : ℕ) → is_in row j ≡ false) → length row ≡ n
    → ((i j : ℕ) → is_in (get_or (rows ++ row ∷ []) i []) j ≡ false)
    × ((i : ℕ) → i < length (rows ++ row ∷ []) → length (get_or (rows ++ row ∷ []) i []) ≡ n)
more_none [] row n none size empty long = (
  (λ i j. here i j),
  (λ i inside. there i inside),
)
  where
    here : (i j : ℕ) → is_in (get_or (row ∷ []) i []) j ≡ false
    here zero j = empty j
    here (suc i) j = none i j

    there : (i : ℕ) → i < 1 → length (get_or (row ∷ []) i []) ≡ n
    there zero inside = long
    there (suc i) inside = absurd (omega arith)
more_none (r ∷ rows) row n none size empty long =
    let rest = more_none rows row n (λ i j. none (suc i) j) (λ i inside. size (suc i) (omega (arith, inside))) empty long in (
      (λ i j. here rest.0 i j),
      (λ i inside. there rest.1 i inside),
    )
  where
    here : ((i j : ℕ) → is_in (get_or (rows ++ row ∷ []) i []) j ≡ false) → (i j : ℕ)
        → is_in (get_or (r ∷ rows ++ row ∷ []) i []) j ≡ false
    here rest zero j = none zero j
    here rest (suc i) j = rest i j

    there : ((i : ℕ) → i < length (rows ++ row ∷ []) → length (get_or (rows ++ row ∷ []) i []) ≡ n) → (i : ℕ)
        → i < length (r ∷ rows ++ row ∷ []) → length (get_or (r ∷ rows ++ row ∷ []) i []) ≡ n
    there rest zero inside = size zero (omega arith)
    there rest (suc i) inside = rest i (omega (arith, inside))

-- what a slice of all rows wrote back
pub written_back : (n : ℕ) (new old : List (List Bool)) → length new ≡ length old → length old ≡ n
    → take n (new ++ drop (length new) old) ≡ new
written_back n new old same size =
    ap (λ (l : List (List Bool)). take n (new ++ l)) (drop_all (length new) old (omega (arith, same)))
    ∙ (ap (take n) (append-nil new) ∙ take_all n new (omega (arith, same, size)))

-- where a link was put into a slice of all rows
pub put_back : (v : Values) (n : ℕ) (new given old : List (List Bool)) (l : Link) → given ≡ old → length new ≡ length given
    → length old ≡ n → IsSquare new → (AreShown v given → IsShown v l.first l.second → AreShown v new) → AreShown v old
    → IsLink v l → IsSquare (take n (new ++ drop (length new) old)) × AreShown v (take n (new ++ drop (length new) old))
put_back v n new given old l all same size square more shown link =
    let back : take n (new ++ drop (length new) old) ≡ new =
    written_back n new old (same ∙ ap (λ (rows : List (List Bool)). length rows) all) size in (
      subst (λ (rows : List (List Bool)). IsSquare rows) (sym back) square,
      subst (λ (rows : List (List Bool)). AreShown v rows) (sym back)
          (more (subst (λ (rows : List (List Bool)). AreShown v rows) (sym all) shown)
          (shown_by v l.first l.second l.cause link)),
    )

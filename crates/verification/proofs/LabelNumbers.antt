-- The numbers of rows of labels, row by row.
use Rattle.std.proofs.Common.{◌≡◌, ◌<◌, ◌+◌, ◌++◌, ◌∷◌, [], ℕ, zero, suc, List, Vec, Global, inl, inr, arith, ap}
use Rattle.std.proofs.Common.{sym, subst, ◌∙◌, append_assoc, append-nil, get_or, take}
use Rattle.std.proofs.lemmas.Bool.{cases_lt}
use Rattle.std.proofs.lemmas.List.{append_cancel_left, map-append}
use Rattle.labels.specs.Certified.{lists_of}
use Rattle.verification.specs.Proof.{Are16Bit}
use Rattle.verification.specs.Spelled.{Spells, label_numbers}

-- the numbers of a row, with those before it and those after it
labels_split : (rows : List (List ℕ)) (n i : ℕ) → i < n
    → (back : List ℕ) × (label_numbers rows n ≡ label_numbers rows i ++ ((i ∷ get_or rows i []) ++ back))
labels_split rows zero i low = absurd (omega arith)
labels_split rows (suc n) i low = elim (cases_lt i n) [
  | inl lower ↦
      let s : (back : List ℕ) × (label_numbers rows n ≡ label_numbers rows i ++ ((i ∷ get_or rows i []) ++ back)) =
      labels_split rows n i lower in
      let last = n ∷ get_or rows n [] in (
        s.0 ++ last,
        ap (λ (t : List ℕ). t ++ last) s.1
            ∙ append_assoc (label_numbers rows i) ((i ∷ get_or rows i []) ++ s.0) last
            ∙ ap (λ (t : List ℕ). label_numbers rows i ++ t) (append_assoc (i ∷ get_or rows i []) s.0 last),
      )
  | inr not ↦ let here : n ≡ i = omega (arith, low, not) in (
    [],
    ap (λ (k : ℕ). label_numbers rows k ++ k ∷ get_or rows k []) here
        ∙ ap (λ (t : List ℕ). label_numbers rows i ++ t) (sym (append-nil (i ∷ get_or rows i []))),
  )
]

-- the first i rows were read, and the numbers of the others are left
pub record AreLeft (lists rows : List (List ℕ)) (n i : ℕ) (text : List ℕ) : Type 0 where
  pub read : lists ≡ take i rows
  pub tail : List ℕ
  pub whole : label_numbers rows n ≡ label_numbers rows i ++ tail
  pub spelled : Spells tail text

-- the numbers after those of i rows begin with the next row
pub row_next : (rows : List (List ℕ)) (n i : ℕ) (tail text : List ℕ) → i < n
    → label_numbers rows n ≡ label_numbers rows i ++ tail → Spells tail text
    → (back : List ℕ) × Spells ((i ∷ get_or rows i []) ++ back) text
    × (label_numbers rows n ≡ label_numbers rows (i + 1) ++ back)
row_next rows n i tail text low whole spelled =
    let s = labels_split rows n i low in
    let row = i ∷ get_or rows i [] in
    let here : tail ≡ row ++ s.0 = append_cancel_left (label_numbers rows i) tail (row ++ s.0) (sym whole ∙ s.1) in
    let next : suc i ≡ i + 1 = omega arith in (
      s.0,
      subst (λ (ns : List ℕ). Spells ns text) here spelled,
      s.1 ∙ sym (append_assoc (label_numbers rows i) row s.0)
          ∙ ap (λ (k : ℕ). label_numbers rows k ++ s.0) next,
    )

-- so does what is left
pub next_row : (lists rows : List (List ℕ)) (n i : ℕ) (text : List ℕ) → i < n → AreLeft lists rows n i text
    → (back : List ℕ) × Spells ((i ∷ get_or rows i []) ++ back) text
    × (label_numbers rows n ≡ label_numbers rows (i + 1) ++ back)
next_row lists rows n i text low left = row_next rows n i left.tail text low left.whole left.spelled

-- the labels of one row more
pub lists_push : (rows : List (Vec ℕ Global)) (row : Vec ℕ Global)
    → lists_of (rows ++ row ∷ []) ≡ lists_of rows ++ row.items ∷ []
lists_push rows row = map-append (λ (r : Vec ℕ Global). r.items) rows (row ∷ [])

-- short rows with one more
pub short_push : (lists : List (List ℕ)) (row : List ℕ) → ((v : ℕ) → Are16Bit (get_or lists v [])) → Are16Bit row
    → (v : ℕ) → Are16Bit (get_or (lists ++ row ∷ []) v [])
short_push [] row all one zero = one
short_push [] row all one (suc v) = all v
short_push (l ∷ ls) row all one zero = all 0
short_push (l ∷ ls) row all one (suc v) = short_push ls row (λ u. all (suc u)) one v

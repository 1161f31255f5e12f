-- What texts spell.
use Rattle.std.proofs.Common.{◌≡◌, ◌<◌, ◌≤◌, ◌^◌, ◌+◌, ◌++◌, ◌∷◌, [], ℕ, zero, suc, List, true, false, inl, inr}
use Rattle.std.proofs.Common.{arith, ap, refl, sym, subst, ◌∙◌, append_assoc, codes, decimal, drop}
use Rattle.std.proofs.Common.{drop-cons, get_or, length, length-append, take, ◌-◌, Some}
use Rattle.std.specs.List.{All}
use Rattle.std.proofs.lemmas.Bool.{cases_lt, false≢true}
use Rattle.std.proofs.lemmas.List.{get_or_append_left, take_all}
use Rattle.std.proofs.lemmas.List.Folds.{list_any-append, list_any_at}
use Rattle.std.proofs.Math.Seq.{drop-append_seam, get_or-append_seam}
use Rattle.recording.specs.Execution.{Execution}
use Rattle.relations.specs.declared.reason.Reason.{Reason}
use Rattle.relations.specs.declared.reason.Reason.TheVariants.{Po, Wo, Rf, Fr}
use Rattle.relations.specs.Cycle.{next_in_cycle}
use Rattle.texts.specs.Decimals.{is_digit}
use Rattle.texts.specs.Numbers.{numbers_text}
use Rattle.verdicts.specs.VerdictText.{ArePairLines, labels_line, labels_text, pair_line, reason_name}
use Rattle.verification.specs.Spelled.{HasNoDigit, Spells, label_numbers, pair_numbers}

-- the first digit of a text stands after what has none
gap_is : (text gap rest : List ℕ) (at d : ℕ) → HasNoDigit gap → is_digit d ≡ true → text ≡ gap ++ d ∷ rest
    → at ≤ length text → ((i : ℕ) → i < at → is_digit (get_or text i 0) ≡ false)
    → (at < length text → is_digit (get_or text at 0) ≡ true) → at ≡ length gap
gap_is text gap rest at d none digit is within before here = elim (cases_lt at (length gap)) [
  | inl low ↦
      let inside : at < length text = omega (arith, low, ap (λ (t : List ℕ). length t) is, length_seam) in
      absurd (false≢true (sym none ∙ list_any_at is_digit gap at 0 low
      (ap is_digit (sym (get_or_append_left gap (d ∷ rest) 0 at low))
      ∙ ap (λ (t : List ℕ). is_digit (get_or t at 0)) (sym is) ∙ here inside)))
  | inr not ↦ elim (cases_lt (length gap) at) [
    | inl past ↦ absurd (false≢true (sym (before (length gap) past)
        ∙ ap (λ (t : List ℕ). is_digit (get_or t (length gap) 0)) is
        ∙ ap is_digit (get_or-append_seam gap d rest 0) ∙ digit))
    | inr same ↦ omega (arith, not, same)
  ]
]
  where
    length_seam : length gap ≤ length (gap ++ d ∷ rest)
    length_seam = omega (arith, length-append gap (d ∷ rest))

-- so what stands from there on is left
pub after_gap : (text gap rest : List ℕ) (at d : ℕ) → HasNoDigit gap → is_digit d ≡ true → text ≡ gap ++ d ∷ rest
    → at ≤ length text → ((i : ℕ) → i < at → is_digit (get_or text i 0) ≡ false)
    → (at < length text → is_digit (get_or text at 0) ≡ true) → take (length text - at) (drop at text) ≡ d ∷ rest
after_gap text gap rest at d none digit is within before here =
    let place : at ≡ length gap = gap_is text gap rest at d none digit is within before here in
    let left : drop at text ≡ d ∷ rest = ap (λ (t : List ℕ). drop at t) is
    ∙ ap (λ (k : ℕ). drop k (gap ++ d ∷ rest)) place ∙ drop-append_seam gap (d ∷ rest) in
    ap (λ (t : List ℕ). take (length text - at) t) left
    ∙ take_all (length text - at) (d ∷ rest)
    (omega (arith, place, ap (λ (t : List ℕ). length t) is, length-append gap (d ∷ rest)))

-- two texts without a digit
no_digit : (s t : List ℕ) → HasNoDigit s → HasNoDigit t → HasNoDigit (s ++ t)
no_digit s t first second = list_any-append is_digit s t ∙ rw (first, second) refl

-- what a text spells after one without a digit
pub spells_after : (s t ms : List ℕ) → HasNoDigit s → Spells ms t → Spells ms (s ++ t)
spells_after s t [] none h = tt
spells_after s t (n ∷ ms) none h = (
  s ++ h.0,
  h.1,
  h.2,
  no_digit s h.0 none h.3,
  h.4,
  h.5,
  h.6,
  ap (λ (u : List ℕ). s ++ u) h.7 ∙ sym (append_assoc s h.0 (decimal n ++ h.1 ∷ h.2)),
)

-- a number before another byte
pub spells_number : (n b : ℕ) (more ms : List ℕ) → n < 2 ^ 32 → is_digit b ≡ false → Spells ms (b ∷ more)
    → Spells (n ∷ ms) (decimal n ++ b ∷ more)
spells_number n b more ms small other h = ([], b, more, refl, small, other, h, refl)

-- what stands after a number of a row
after_number : (ns more : List ℕ) → (b : ℕ) × (back : List ℕ) × (is_digit b ≡ false)
    × (numbers_text ns ++ 10 ∷ more ≡ b ∷ back)
after_number [] more = (10, more, refl, refl)
after_number (n ∷ ns) more = (32, (decimal n ++ numbers_text ns) ++ 10 ∷ more, refl, refl)

-- a row of numbers, and the end of its line
pub spells_row : (ns more ms : List ℕ) → All (λ n. n < 2 ^ 32) ns → Spells ms (10 ∷ more)
    → Spells (ns ++ ms) (numbers_text ns ++ 10 ∷ more)
spells_row [] more ms all h = h
spells_row (n ∷ ns) more ms all h =
    let next : (b : ℕ) × (back : List ℕ) × (is_digit b ≡ false) × (numbers_text ns ++ 10 ∷ more ≡ b ∷ back) =
    after_number ns more in (
      32 ∷ [],
      next.0,
      next.1,
      refl,
      all 0 0 (omega arith),
      next.2,
      subst (Spells (ns ++ ms)) next.3 (spells_row ns more ms (λ k d low. all (suc k) d (omega (arith, low))) h),
      ap (λ (t : List ℕ). 32 ∷ t) (append_assoc (decimal n) (numbers_text ns) (10 ∷ more)
          ∙ ap (λ (t : List ℕ). decimal n ++ t) next.3),
    )

-- the end of the line of a pair has no digit
pub reason_text : (r : Reason) → HasNoDigit (32 ∷ (reason_name r ++ 10 ∷ []))
reason_text Po = refl
reason_text Wo = refl
reason_text Rf = refl
reason_text Fr = refl

-- two numbers with a text between them and one after them
in_order : (a b c d : List ℕ) → a ++ b ++ c ++ d ≡ a ++ (b ++ (c ++ d))
in_order a b c d = append_assoc (a ++ b) c d ∙ append_assoc a b (c ++ d)

-- the line of a pair, before another text
pub pair_shape : (e f : ℕ) (r : Reason) (more : List ℕ)
    → pair_line e f r ++ more ≡ decimal e ++ (codes " -> " ++ (decimal f ++ 32 ∷ (reason_name r ++ 10 ∷ more)))
pair_shape e f r more =
    let end = 32 ∷ (reason_name r ++ 10 ∷ []) in
    ap (λ (t : List ℕ). t ++ more) (in_order (decimal e) (codes " -> ") (decimal f) end)
    ∙ append_assoc (decimal e) (codes " -> " ++ (decimal f ++ end)) more
    ∙ ap (λ (t : List ℕ). decimal e ++ (codes " -> " ++ t))
    (append_assoc (decimal f) end more
    ∙ ap (λ (t : List ℕ). decimal f ++ 32 ∷ t) (append_assoc (reason_name r) (10 ∷ []) more))

spells_pair : (e f : ℕ) (r : Reason) (more ms : List ℕ) → e < 2 ^ 32 → f < 2 ^ 32 → Spells ms more
    → Spells (e ∷ f ∷ ms) (pair_line e f r ++ more)
spells_pair e f r more ms first second h =
    let rest = decimal f ++ 32 ∷ (reason_name r ++ 10 ∷ more) in
    subst (Spells (e ∷ f ∷ ms)) (sym (pair_shape e f r more))
    (spells_number e 32 (codes "-> " ++ rest) (f ∷ ms) first refl
    (spells_after (codes " -> ") rest (f ∷ ms) refl
    (spells_number f 32 (reason_name r ++ 10 ∷ more) ms second refl
    (subst (Spells ms) (append_assoc (32 ∷ reason_name r) (10 ∷ []) more)
    (spells_after (32 ∷ (reason_name r ++ 10 ∷ [])) more ms (reason_text r) h)))))

-- the lines of the pairs of a cycle
pub spells_pairs : (x : Execution) (c : List ℕ) (n : ℕ) (lines more ms : List ℕ)
    → ((i : ℕ) → i < n → (get_or c i 0 < 2 ^ 32) × (next_in_cycle c i < 2 ^ 32)) → ArePairLines x c n lines
    → Spells ms more → Spells (pair_numbers c n ++ ms) (lines ++ more)
spells_pairs x c zero lines more ms short h rest =
    subst (λ (t : List ℕ). Spells ms (t ++ more)) (sym h) rest
spells_pairs x c (suc n) lines more ms short h rest =
    let last = short n (omega arith) in
    let e = get_or c n 0 in
    let f = next_in_cycle c n in
    let line : Spells (e ∷ f ∷ ms) (h.1 ++ more) =
    subst (λ (t : List ℕ). Spells (e ∷ f ∷ ms) (t ++ more)) (sym h.3.text)
    (spells_pair e f h.3.reason more ms last.0 last.1 rest) in
    subst (λ (t : List ℕ). Spells (pair_numbers c (suc n) ++ ms) (t ++ more)) (sym h.4)
    (subst (λ (ns : List ℕ). Spells ns ((h.0 ++ h.1) ++ more))
    (sym (append_assoc (pair_numbers c n) (e ∷ f ∷ []) ms))
    (subst (Spells (pair_numbers c n ++ (e ∷ f ∷ ms))) (sym (append_assoc h.0 h.1 more))
    (spells_pairs x c n h.0 (h.1 ++ more) (e ∷ f ∷ ms) (λ i low. short i (omega arith)) h.2 line)))

-- the line of a row of labels
spells_labels : (v : ℕ) (row more ms : List ℕ) → v < 2 ^ 32 → All (λ n. n < 2 ^ 32) row → Spells ms more
    → Spells (v ∷ (row ++ ms)) (labels_line v row ++ more)
spells_labels v row more ms small all h =
    let line = numbers_text row ++ 10 ∷ more in
    let labels : Spells (row ++ ms) line = spells_row row more ms all (spells_after (10 ∷ []) more ms refl h) in
    let front = codes "labels " ++ decimal v ++ codes ":" in
    let shape : labels_line v row ++ more ≡ codes "labels " ++ (decimal v ++ 58 ∷ line) =
    append_assoc (front ++ numbers_text row) (10 ∷ []) more
    ∙ append_assoc front (numbers_text row) (10 ∷ more)
    ∙ in_order (codes "labels ") (decimal v) (codes ":") line in
    subst (Spells (v ∷ (row ++ ms))) (sym shape)
    (spells_after (codes "labels ") (decimal v ++ 58 ∷ line) (v ∷ (row ++ ms)) refl
    (spells_number v 58 line (row ++ ms) small refl (spells_after (58 ∷ []) line (row ++ ms) refl labels)))

-- the lines of the rows of labels
pub spells_rows : (rows : List (List ℕ)) (n : ℕ) (more ms : List ℕ) → n ≤ 2 ^ 32
    → ((v : ℕ) → v < n → All (λ n. n < 2 ^ 32) (get_or rows v [])) → Spells ms more
    → Spells (label_numbers rows n ++ ms) (labels_text rows n ++ more)
spells_rows rows zero more ms few short h = h
spells_rows rows (suc n) more ms few short h =
    let row = get_or rows n [] in
    let line = labels_line n row in
    subst (λ (ns : List ℕ). Spells ns ((labels_text rows n ++ line) ++ more))
    (sym (append_assoc (label_numbers rows n) (n ∷ row) ms))
    (subst (Spells (label_numbers rows n ++ (n ∷ (row ++ ms)))) (sym (append_assoc (labels_text rows n) line more))
    (spells_rows rows n (line ++ more) (n ∷ (row ++ ms)) (omega (arith, few)) (λ v low. short v (omega arith))
    (spells_labels n row more ms (omega (arith, few)) (short n (omega arith)) h)))

-- the number at a place, before those after it
pub spelled_next : (ns ms rest : List ℕ) (i : ℕ) → i < length ns → Spells (drop i ns ++ ms) rest
    → Spells (get_or ns i 0 ∷ (drop (i + 1) ns ++ ms)) rest
spelled_next ns ms rest i low h =
    let next : suc i ≡ i + 1 = omega arith in
    subst (λ (ks : List ℕ). Spells (ks ++ ms) rest)
    (drop-cons ns i 0 low ∙ ap (λ (j : ℕ). get_or ns i 0 ∷ drop j ns) next) h

-- a number that is another
pub some_is : (a b : ℕ) → Some a ≡ Some b → a ≡ b
some_is a b same = cc

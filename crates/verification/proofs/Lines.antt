-- The lines of a text, one by one.
use Rattle.std.proofs.Common.{◌≡◌, ◌≢◌, ◌<◌, ◌≤◌, ◌^◌, ◌⊎◌, ◌-◌, ◌++◌, ◌∷◌, [], ℕ, zero, suc, List, inl, inr, arith, ap}
use Rattle.std.proofs.Common.{refl, sym, subst, ◌∙◌, append_assoc, codes, decimal}
use Rattle.std.specs.Prelude.{◌==◌, ◌||◌, Bool, true, false}
use Rattle.std.specs.List.{All, list_all, list_any}
use Rattle.std.proofs.lemmas.Bool.{and_parts, cases_Bool, cases_lt, or_parts}
use Rattle.std.proofs.lemmas.Fmt.{digits_decimal}
use Rattle.std.proofs.lemmas.List.Folds.{list_any-append}
use Rattle.relations.specs.declared.reason.Reason.{Reason}
use Rattle.relations.specs.declared.reason.Reason.TheVariants.{Po, Wo, Rf, Fr}
use Rattle.texts.specs.DecimalLaws.{AllDigitBytes, model}
use Rattle.texts.specs.Decimals.{is_digit}
use Rattle.texts.specs.Numbers.{numbers_text}
use Rattle.verdicts.specs.VerdictText.{labels_line, order_line, overlook_line, pair_line, reason_name}
use Rattle.verification.specs.declared.text_check.TextCheck.{TextCheck}
use Rattle.verification.specs.declared.text_check.TextCheck.TheVariants.{Holds, FailsAt, EndsEarly}
use Rattle.verification.specs.Faults.{NamesFault, first_lines}
use Rattle.verification.specs.Held.{IsFirstDifference, IsMost, ends_line}
use Rattle.verification.proofs.Differences.{line_ends, line_goes_on}

-- a text without the end of a line
abbrev pub HasNoEnd : List ℕ → Type 0
HasNoEnd text = list_any (λ b. b == 10) text ≡ false

-- one line, with its end
pub record IsWhole (line : List ℕ) : Type 0 where
  pub body : List ℕ
  pub none : HasNoEnd body
  pub ends : line ≡ body ++ 10 ∷ []

-- two texts without one
pub no_end : (s t : List ℕ) → HasNoEnd s → HasNoEnd t → HasNoEnd (s ++ t)
no_end s t first second = list_any-append (λ b. b == 10) s t ∙ rw (first, second) refl

-- digits have none
digit_no_end : (b : ℕ) → is_digit b ≡ true → (b == 10) ≡ false
digit_no_end b is = grind (arith, is)

digits_no_end : (ds : List ℕ) → AllDigitBytes ds → HasNoEnd ds
digits_no_end [] all = refl
digits_no_end (d ∷ ds) all =
    let parts = and_parts (is_digit d) (list_all is_digit ds) all in
    ap (λ (q : Bool). q || list_any (λ b. b == 10) ds) (digit_no_end d parts.0) ∙ digits_no_end ds parts.1

decimal_no_end : (n : ℕ) → n < 2 ^ 64 → HasNoEnd (decimal n)
decimal_no_end n small = digits_no_end (decimal n) (digits_decimal model n small)

numbers_no_end : (ns : List ℕ) → All (λ n. n < 2 ^ 64) ns → HasNoEnd (numbers_text ns)
numbers_no_end [] all = refl
numbers_no_end (n ∷ ns) all = no_end (32 ∷ decimal n) (numbers_text ns)
    (no_end (32 ∷ []) (decimal n) refl (decimal_no_end n (all 0 0 (omega arith))))
    (numbers_no_end ns (λ k d low. all (suc k) d (omega (arith, low))))

-- the lines of proofs
pub order_whole : (m : List ℕ) → All (λ n. n < 2 ^ 64) m → IsWhole (order_line m)
order_whole m all = record {
  body = codes "ordered:" ++ numbers_text m;
  none = no_end (codes "ordered:") (numbers_text m) refl (numbers_no_end m all);
  ends = refl;
}

pub overlook_whole : (l s : ℕ) → l < 2 ^ 64 → s < 2 ^ 64 → IsWhole (overlook_line l s)
overlook_whole l s load store = record {
  body = codes "overlook: load " ++ decimal l ++ codes " store " ++ decimal s;
  none = no_end (codes "overlook: load " ++ decimal l ++ codes " store ") (decimal s)
      (no_end (codes "overlook: load " ++ decimal l) (codes " store ")
      (no_end (codes "overlook: load ") (decimal l) refl (decimal_no_end l load)) refl) (decimal_no_end s store);
  ends = refl;
}

pub length_whole : (size : ℕ) → size < 2 ^ 64 → IsWhole (codes "cycle of " ++ decimal size ++ 10 ∷ [])
length_whole size small = record {
  body = codes "cycle of " ++ decimal size;
  none = no_end (codes "cycle of ") (decimal size) refl (decimal_no_end size small);
  ends = refl;
}

reason_no_end : (r : Reason) → HasNoEnd (32 ∷ reason_name r)
reason_no_end Po = refl
reason_no_end Wo = refl
reason_no_end Rf = refl
reason_no_end Fr = refl

pub pair_whole : (e f : ℕ) (r : Reason) → e < 2 ^ 64 → f < 2 ^ 64 → IsWhole (pair_line e f r)
pair_whole e f r first second =
    let front = decimal e ++ codes " -> " ++ decimal f in record {
      body = front ++ 32 ∷ reason_name r;
      none = no_end front (32 ∷ reason_name r) (no_end (decimal e ++ codes " -> ") (decimal f)
          (no_end (decimal e) (codes " -> ") (decimal_no_end e first) refl) (decimal_no_end f second))
          (reason_no_end r);
      ends = sym (append_assoc front (32 ∷ reason_name r) (10 ∷ []));
    }

pub labels_whole : (v : ℕ) (row : List ℕ) → v < 2 ^ 64 → All (λ n. n < 2 ^ 64) row → IsWhole (labels_line v row)
labels_whole v row small all = record {
  body = codes "labels " ++ decimal v ++ codes ":" ++ numbers_text row;
  none = no_end (codes "labels " ++ decimal v ++ codes ":") (numbers_text row)
      (no_end (codes "labels " ++ decimal v) (codes ":")
      (no_end (codes "labels ") (decimal v) refl (decimal_no_end v small)) refl) (numbers_no_end row all);
  ends = refl;
}

-- the first lines of nothing
no_lines : (n : ℕ) → first_lines n [] ≡ []
no_lines zero = refl
no_lines (suc n) = refl

-- a text begins with its first lines
first_split : (n : ℕ) (text : List ℕ) → (more : List ℕ) × (text ≡ first_lines n text ++ more)
first_split zero text = (text, refl)
first_split (suc n) [] = ([], refl)
first_split (suc n) (b ∷ bs) = elim (cases_Bool (b == 10)) [
  | inl is ↦ let h : (more : List ℕ) × (bs ≡ first_lines n bs ++ more) = first_split n bs in
      (h.0, ap (λ (t : List ℕ). b ∷ t) h.1 ∙ ap (λ (t : List ℕ). t ++ h.0) (sym (line_ends n b bs is)))
  | inr is ↦ let h : (more : List ℕ) × (bs ≡ first_lines (suc n) bs ++ more) = first_split (suc n) bs in
      (h.0, ap (λ (t : List ℕ). b ∷ t) h.1 ∙ ap (λ (t : List ℕ). t ++ h.0) (sym (line_goes_on n b bs is)))
]

-- the first of the first lines
first_first : (n m : ℕ) (text : List ℕ) → n ≤ m → first_lines n (first_lines m text) ≡ first_lines n text
first_first zero m text fewer = refl
first_first (suc n) zero text fewer = absurd (omega (arith, fewer))
first_first (suc n) (suc m) [] fewer = refl
first_first (suc n) (suc m) (b ∷ bs) fewer = elim (cases_Bool (b == 10)) [
  | inl is ↦ ap (λ (t : List ℕ). first_lines (suc n) t) (line_ends m b bs is)
      ∙ line_ends n b (first_lines m bs) is
      ∙ ap (λ (t : List ℕ). b ∷ t) (first_first n m bs (omega (arith, fewer)))
      ∙ sym (line_ends n b bs is)
  | inr is ↦ ap (λ (t : List ℕ). first_lines (suc n) t) (line_goes_on m b bs is)
      ∙ line_goes_on n b (first_lines (suc m) bs) is
      ∙ ap (λ (t : List ℕ). b ∷ t) (first_first (suc n) (suc m) bs fewer)
      ∙ sym (line_goes_on n b bs is)
]

-- one line is all lines
one_line : (n : ℕ) (body : List ℕ) → HasNoEnd body → first_lines (suc n) (body ++ 10 ∷ []) ≡ body ++ 10 ∷ []
one_line n [] none = ap (λ (t : List ℕ). 10 ∷ t) (no_lines n)
one_line n (b ∷ bs) none =
    let parts = or_parts (b == 10) (list_any (λ b. b == 10) bs) none in
    line_goes_on n b (bs ++ 10 ∷ []) parts.0 ∙ ap (λ (t : List ℕ). b ∷ t) (one_line n bs parts.1)

-- the first lines of a text with one line more
one_more : (n : ℕ) (front line : List ℕ) → IsWhole line
    → (first_lines n (front ++ line) ≡ first_lines n front) ⊎ (first_lines n (front ++ line) ≡ front ++ line)
one_more zero front line whole = inl refl
one_more (suc n) [] line whole =
    inr (ap (λ (t : List ℕ). first_lines (suc n) t) whole.ends ∙ one_line n whole.body whole.none ∙ sym whole.ends)
one_more (suc n) (b ∷ bs) line whole = elim (cases_Bool (b == 10)) [
  | inl is ↦ elim (one_more n bs line whole) [
    | inl before ↦ inl (line_ends n b (bs ++ line) is ∙ ap (λ (t : List ℕ). b ∷ t) before ∙ sym (line_ends n b bs is))
    | inr all ↦ inr (line_ends n b (bs ++ line) is ∙ ap (λ (t : List ℕ). b ∷ t) all)
  ]
  | inr is ↦ elim (one_more (suc n) bs line whole) [
    | inl before ↦ inl (line_goes_on n b (bs ++ line) is ∙ ap (λ (t : List ℕ). b ∷ t) before
        ∙ sym (line_goes_on n b bs is))
    | inr all ↦ inr (line_goes_on n b (bs ++ line) is ∙ ap (λ (t : List ℕ). b ∷ t) all)
  ]
]

-- a text that ends with a line
ends_after : (begins : Bool) (text : List ℕ) → ends_line begins (text ++ 10 ∷ []) ≡ true
ends_after begins [] = refl
ends_after begins (b ∷ bs) = ends_after (b == 10) bs

-- a text of n whole lines, of which the first hold, as do they with each line after them
abbrev pub Grows : (List ℕ → Type 0) → ℕ → List ℕ → Type 0
Grows Hold zero text = text ≡ []
Grows Hold (suc n) text = (front line : List ℕ) × Grows Hold n front × IsWhole line × Hold text × (text ≡ front ++ line)

-- so have its first lines
first_grow : (Hold : List ℕ → Type 0) (n k : ℕ) (text : List ℕ) → Grows Hold n text
    → (m : ℕ) × Grows Hold m (first_lines k text)
first_grow Hold zero k text h = (0, ap (λ (t : List ℕ). first_lines k t) h ∙ no_lines k)
first_grow Hold (suc n) k text h =
    let is = ap (λ (t : List ℕ). first_lines k t) h.5 in
    elim (one_more k h.0 h.1 h.3) [
      | inl before ↦ let front : (m : ℕ) × Grows Hold m (first_lines k h.0) = first_grow Hold n k h.0 h.2 in
          (front.0, subst (λ (t : List ℕ). Grows Hold front.0 t) (sym (is ∙ before)) front.1)
      | inr all ↦ (suc n, subst (λ (t : List ℕ). Grows Hold (suc n) t) (sym (is ∙ all ∙ sym h.5)) h)
    ]

-- and it ends with a line
grown_ends : (Hold : List ℕ → Type 0) (n : ℕ) (text : List ℕ) → Grows Hold n text → ends_line true text ≡ true
grown_ends Hold zero text h = ap (λ (t : List ℕ). ends_line true t) h
grown_ends Hold (suc n) text h = ap (λ (t : List ℕ). ends_line true t)
    (h.5 ∙ ap (λ (t : List ℕ). h.0 ++ t) h.3.ends ∙ sym (append_assoc h.0 h.3.body (10 ∷ [])))
    ∙ ends_after true (h.0 ++ h.3.body)

grown_holds : (Hold : List ℕ → Type 0) → Hold [] → (n : ℕ) (text : List ℕ) → Grows Hold n text → Hold text
grown_holds Hold none zero text h = subst Hold (sym h) none
grown_holds Hold none (suc n) text h = h.4

-- so the first lines of one that holds hold
pub first_hold : (Hold : List ℕ → Type 0) → Hold [] → ((t : List ℕ) → Hold t → (n : ℕ) × Grows Hold n t)
    → (text : List ℕ) → Hold text → (k : ℕ) → Hold (first_lines k text)
first_hold Hold none grows text holds k =
    let g = grows text holds in
    let lines = first_grow Hold g.0 k text g.1 in
    grown_holds Hold none lines.0 (first_lines k text) lines.1

-- the first line that differs from all that hold is the first at fault
pub names_fault : (Hold : List ℕ → Type 0) → Hold [] → ((t : List ℕ) → Hold t → (n : ℕ) × Grows Hold n t)
    → (text part : List ℕ) (f : TextCheck) → IsMost Hold text part → IsFirstDifference text part f
    → NamesFault Hold text f
names_fault Hold none grows text part Holds held h = tt
names_fault Hold none grows text part (FailsAt n) held h =
    (h.0, subst Hold (sym h.1) (first_hold Hold none grows part held.holds (n - 1)), at)
  where
    at : Hold (first_lines n text) → ⊥
    at holds =
        let s : (more : List ℕ) × (text ≡ first_lines n text ++ more) = first_split n text in
        let g = grows (first_lines n text) holds in
        let m = held.most (first_lines n text) s.0 s.1 holds in
        h.2 m.0 m.1 (grown_ends Hold g.0 (first_lines n text) g.1)
names_fault Hold none grows text part EndsEarly held h =
    subst Hold (sym h.1) (first_hold Hold none grows part held.holds h.0)

-- one line is the first at fault, or none is
pub fault_one : (Hold : List ℕ → Type 0) → Hold [] → ((t : List ℕ) → Hold t → (n : ℕ) × Grows Hold n t)
    → (text : List ℕ) (f g : TextCheck) → NamesFault Hold text f → NamesFault Hold text g → f ≢ Holds → g ≢ Holds
    → f ≡ g
fault_one Hold none grows text Holds g first second no_proof never = absurd (no_proof refl)
fault_one Hold none grows text (FailsAt n) Holds first second no_proof never = absurd (never refl)
fault_one Hold none grows text (FailsAt n) (FailsAt m) first second no_proof never = elim (cases_lt n m) [
  | inl less ↦ absurd (later n m first.2 second.1 less)
  | inr not ↦ elim (cases_lt m n) [
    | inl more ↦ absurd (later m n second.2 first.1 more)
    | inr same ↦ let is : n ≡ m = omega (arith, not, same) in ap (λ (k : ℕ). FailsAt k) is
  ]
]
  where
    later : (k l : ℕ) → (Hold (first_lines k text) → ⊥) → Hold (first_lines (l - 1) text) → k < l → ⊥
    later k l fails holds less = fails (subst Hold (first_first k (l - 1) text (omega (arith, less)))
        (first_hold Hold none grows (first_lines (l - 1) text) holds k))
fault_one Hold none grows text (FailsAt n) EndsEarly first second no_proof never =
    absurd (first.2 (first_hold Hold none grows text second n))
fault_one Hold none grows text EndsEarly Holds first second no_proof never = absurd (never refl)
fault_one Hold none grows text EndsEarly (FailsAt m) first second no_proof never =
    absurd (second.2 (first_hold Hold none grows text first m))
fault_one Hold none grows text EndsEarly EndsEarly first second no_proof never = refl

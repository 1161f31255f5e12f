-- The first line of a text that is none of another.
use Rattle.std.proofs.Common.{◌≡◌, ◌≢◌, ◌⊎◌, ◌<◌, ◌≤◌, ◌+◌, ◌-◌, ◌++◌, ◌∷◌, [], ℕ, zero, suc, List, inl, inr, arith}
use Rattle.std.proofs.Common.{ap, refl, sym}
use Rattle.std.proofs.Common.{subst, ◌∙◌, drop, drop-cons, get_or, length}
use Rattle.std.specs.Prelude.{◌==◌, Bool, true, false, if◌then◌else◌}
use Rattle.std.proofs.lemmas.Bool.{cases_lt, eq-eqb, false≢true, ne_eqb}
use Rattle.std.proofs.lemmas.List.{drop_all}
use Rattle.verification.specs.declared.text_check.TextCheck.{TextCheck}
use Rattle.verification.specs.declared.text_check.TextCheck.TheVariants.{Holds, FailsAt, EndsEarly}
use Rattle.verification.specs.Faults.{first_lines}
use Rattle.verification.specs.Held.{IsFirstDifference, ends_line}

-- what is found from line k on
abbrev pub difference : Bool → ℕ → List ℕ → List ℕ → TextCheck
difference true k [] other = EndsEarly
difference false k [] other = FailsAt k
difference begins k (b ∷ bs) [] = FailsAt k
difference begins k (b ∷ bs) (p ∷ ps) =
    if b == p then difference (b == 10) (if b == 10 then k + 1 else k) bs ps else FailsAt k

-- what is found says of a text and another, of which line k is due or begun
abbrev Says : Bool → ℕ → List ℕ → List ℕ → TextCheck → Type 0
Says begins k text other Holds = ⊥
Says begins k text other (FailsAt n) = (d : ℕ) × (n ≡ k + d) × (first_lines d text ≡ first_lines d other)
    × ((more : List ℕ) → other ≡ first_lines (suc d) text ++ more → ends_line begins (first_lines (suc d) text) ≡ true
    → ⊥)
Says true k text other EndsEarly = (d : ℕ) × (text ≡ first_lines d other)
Says false k text other EndsEarly = (d : ℕ) × (text ≡ first_lines (suc d) other)

-- a line that ends, and one that goes on
pub line_ends : (n b : ℕ) (bs : List ℕ) → (b == 10) ≡ true → first_lines (suc n) (b ∷ bs) ≡ b ∷ first_lines n bs
line_ends n b bs is = rw is refl

pub line_goes_on : (n b : ℕ) (bs : List ℕ) → (b == 10) ≡ false
    → first_lines (suc n) (b ∷ bs) ≡ b ∷ first_lines (suc n) bs
line_goes_on n b bs is = rw is refl

-- the first bytes of texts that are the same
one_first : (b p : ℕ) (bs ps : List ℕ) → b ∷ bs ≡ p ∷ ps → (b ≡ p) × (bs ≡ ps)
one_first b p bs ps is = (ap (λ (l : List ℕ). get_or l 0 0) is, cc)

-- what is found after a byte that both have, which ends a line or does not
after_byte : (begins : Bool) (k b : ℕ) (bs ps : List ℕ) (f : TextCheck) (ends : Bool) → (b == 10) ≡ ends
    → Says ends (if ends then k + 1 else k) bs ps f → Says begins k (b ∷ bs) (b ∷ ps) f
after_byte begins k b bs ps Holds true is h = absurd h
after_byte begins k b bs ps Holds false is h = absurd h
after_byte begins k b bs ps (FailsAt n) true is h = (
  suc h.0,
  omega (arith, h.1),
  line_ends h.0 b bs is ∙ ap (λ (t : List ℕ). b ∷ t) h.2 ∙ sym (line_ends h.0 b ps is),
  λ more whole last. h.3 more
      (one_first b b ps (first_lines (suc h.0) bs ++ more)
      (whole ∙ ap (λ (t : List ℕ). t ++ more) (line_ends (suc h.0) b bs is))).1
      (subst (λ (q : Bool). ends_line q (first_lines (suc h.0) bs) ≡ true) is
      (sym (ap (λ (t : List ℕ). ends_line begins t) (line_ends (suc h.0) b bs is)) ∙ last)),
)
after_byte begins k b bs ps (FailsAt n) false is h = (
  h.0,
  h.1,
  lines_same h.0 h.2,
  λ more whole last. h.3 more
      (one_first b b ps (first_lines (suc h.0) bs ++ more)
      (whole ∙ ap (λ (t : List ℕ). t ++ more) (line_goes_on h.0 b bs is))).1
      (subst (λ (q : Bool). ends_line q (first_lines (suc h.0) bs) ≡ true) is
      (sym (ap (λ (t : List ℕ). ends_line begins t) (line_goes_on h.0 b bs is)) ∙ last)),
)
  where
    lines_same : (d : ℕ) → first_lines d bs ≡ first_lines d ps → first_lines d (b ∷ bs) ≡ first_lines d (b ∷ ps)
    lines_same zero same = refl
    lines_same (suc d) same = line_goes_on d b bs is ∙ ap (λ (t : List ℕ). b ∷ t) same ∙ sym (line_goes_on d b ps is)
after_byte true k b bs ps EndsEarly true is h =
    (suc h.0, ap (λ (t : List ℕ). b ∷ t) h.1 ∙ sym (line_ends h.0 b ps is))
after_byte true k b bs ps EndsEarly false is h =
    (suc h.0, ap (λ (t : List ℕ). b ∷ t) h.1 ∙ sym (line_goes_on h.0 b ps is))
after_byte false k b bs ps EndsEarly true is h =
    (h.0, ap (λ (t : List ℕ). b ∷ t) h.1 ∙ sym (line_ends h.0 b ps is))
after_byte false k b bs ps EndsEarly false is h =
    (h.0, ap (λ (t : List ℕ). b ∷ t) h.1 ∙ sym (line_goes_on h.0 b ps is))

-- what is found after a byte says of it
after : (begins : Bool) (k b p : ℕ) (bs ps : List ℕ) (same : Bool) → (b == p) ≡ same
    → Says (b == 10) (if b == 10 then k + 1 else k) bs ps (difference (b == 10) (if b == 10 then k + 1 else k) bs ps)
    → Says begins k (b ∷ bs) (p ∷ ps)
    (if same then difference (b == 10) (if b == 10 then k + 1 else k) bs ps else FailsAt k)
after begins k b p bs ps true is h =
    let one : b ≡ p = grind (arith, is) in
    subst (λ (q : ℕ). Says begins k (b ∷ bs) (q ∷ ps)
    (difference (b == 10) (if b == 10 then k + 1 else k) bs ps)) one
    (after_byte begins k b bs ps (difference (b == 10) (if b == 10 then k + 1 else k) bs ps) (b == 10) refl h)
after begins k b p bs ps false is h = (
  0,
  omega arith,
  refl,
  λ more whole ends. let one : p ≡ b = (one_first p b ps _ whole).0 in absurd (grind (arith, is, one)),
)

-- what is found says so of a text and another
pub says : (begins : Bool) (k : ℕ) (text other : List ℕ) → Says begins k text other (difference begins k text other)
says true k [] other = (0, refl)
says false k [] other = (0, omega arith, refl, λ more whole ends. false≢true ends)
says begins k (b ∷ bs) [] = (0, omega arith, refl, λ more whole ends. absurd cc)
says begins k (b ∷ bs) (p ∷ ps) = after begins k b p bs ps (b == p) refl
    (says (b == 10) (if b == 10 then k + 1 else k) bs ps)

-- so does what is found of a whole text
pub first_is : (text other : List ℕ) (f : TextCheck) → f ≡ difference true 1 text other
    → IsFirstDifference text other f
first_is text other f is = first_of f (subst (Says true 1 text other) (sym is) (says true 1 text other))
  where
    first_of : (f : TextCheck) → Says true 1 text other f → IsFirstDifference text other f
    first_of Holds h = h
    first_of (FailsAt n) h =
        let line : suc h.0 ≡ n = omega (arith, h.1) in
        let before : h.0 ≡ n - 1 = omega (arith, h.1) in (
          omega (arith, h.1),
          subst (λ (d : ℕ). first_lines d text ≡ first_lines d other) before h.2,
          subst (λ (d : ℕ). (more : List ℕ) → other ≡ first_lines d text ++ more
              → ends_line true (first_lines d text) ≡ true → ⊥) line h.3,
        )
    first_of EndsEarly h = h

-- after a byte that both have
same_byte : (begins : Bool) (k line b p : ℕ) (bs ps : List ℕ) → b ≡ p → line ≡ (if b == 10 then k + 1 else k)
    → difference begins k (b ∷ bs) (p ∷ ps) ≡ difference (b == 10) line bs ps
same_byte begins k line b p bs ps same is =
    ap (λ (q : Bool). if q then difference (b == 10) (if b == 10 then k + 1 else k) bs ps else FailsAt k)
    (eq-eqb b p same) ∙ ap (λ (n : ℕ). difference (b == 10) n bs ps) (sym is)

-- at a byte that they do not both have
other_byte : (begins : Bool) (k b p : ℕ) (bs ps : List ℕ) → b ≢ p → difference begins k (b ∷ bs) (p ∷ ps) ≡ FailsAt k
other_byte begins k b p bs ps other =
    ap (λ (q : Bool). if q then difference (b == 10) (if b == 10 then k + 1 else k) bs ps else FailsAt k)
    (ne_eqb b p other)

-- one byte more
pub step : (text other : List ℕ) (i : ℕ) (begins : Bool) (k line : ℕ) → i < length text → i < length other
    → get_or text i 0 ≡ get_or other i 0
    → ((get_or text i 0 ≡ 10) × (line ≡ k + 1)) ⊎ ((get_or text i 0 ≢ 10) × (line ≡ k))
    → difference (get_or text i 0 == 10) line (drop (i + 1) text) (drop (i + 1) other)
    ≡ difference begins k (drop i text) (drop i other)
step text other i begins k line inside within same counts =
    let next : suc i ≡ i + 1 = omega arith in
    sym (ap (λ (t : List ℕ). difference begins k t (drop i other)) (drop-cons text i 0 inside)
    ∙ ap (λ (t : List ℕ). difference begins k (get_or text i 0 ∷ drop (suc i) text) t) (drop-cons other i 0 within)
    ∙ same_byte begins k line (get_or text i 0) (get_or other i 0) (drop (suc i) text) (drop (suc i) other) same
    (counted counts)
    ∙ ap (λ (j : ℕ). difference (get_or text i 0 == 10) line (drop j text) (drop j other)) next)
  where
    counted : ((get_or text i 0 ≡ 10) × (line ≡ k + 1)) ⊎ ((get_or text i 0 ≢ 10) × (line ≡ k))
        → line ≡ (if get_or text i 0 == 10 then k + 1 else k)
    counted (inl h) = h.1 ∙ sym (ap (λ (q : Bool). if q then k + 1 else k) (eq-eqb (get_or text i 0) 10 h.0))
    counted (inr h) = h.1 ∙ sym (ap (λ (q : Bool). if q then k + 1 else k) (ne_eqb (get_or text i 0) 10 h.0))

-- where the other has no byte, or another
pub stops : (text other : List ℕ) (i : ℕ) (begins : Bool) (k : ℕ) → i < length text
    → (length other ≤ i) ⊎ (get_or text i 0 ≢ get_or other i 0)
    → FailsAt k ≡ difference begins k (drop i text) (drop i other)
stops text other i begins k inside (inl past) =
    sym (ap (λ (t : List ℕ). difference begins k t (drop i other)) (drop-cons text i 0 inside)
    ∙ ap (λ (t : List ℕ). difference begins k (get_or text i 0 ∷ drop (suc i) text) t) (drop_all i other past))
stops text other i begins k inside (inr differ) = elim (cases_lt i (length other)) [
  | inl within ↦ sym (ap (λ (t : List ℕ). difference begins k t (drop i other)) (drop-cons text i 0 inside)
      ∙ ap (λ (t : List ℕ). difference begins k (get_or text i 0 ∷ drop (suc i) text) t) (drop-cons other i 0 within)
      ∙ other_byte begins k (get_or text i 0) (get_or other i 0) (drop (suc i) text) (drop (suc i) other) differ)
  | inr past ↦ sym (ap (λ (t : List ℕ). difference begins k t (drop i other)) (drop-cons text i 0 inside)
      ∙ ap (λ (t : List ℕ). difference begins k (get_or text i 0 ∷ drop (suc i) text) t) (drop_all i other past))
]

-- at the end of the text
pub ends : (text other : List ℕ) (i : ℕ) (begins : Bool) (k : ℕ) → length text ≤ i
    → (if begins then EndsEarly else FailsAt k) ≡ difference begins k (drop i text) (drop i other)
ends text other i true k past =
    sym (ap (λ (t : List ℕ). difference true k t (drop i other)) (drop_all i text past))
ends text other i false k past =
    sym (ap (λ (t : List ℕ). difference false k t (drop i other)) (drop_all i text past))

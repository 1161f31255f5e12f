-- Laws of reading a text line by line: one byte more, and one line more.
use Rattle.std.proofs.Common.{◌≡◌, ℕ, ◌+◌, ◌-◌, ◌<◌, ◌≤◌, ◌==◌, not, List, [], ◌∷◌, ◌++◌, length, drop}
use Rattle.std.proofs.Common.{get_or, slice_range, length-drop, Result, Ok, Err, refl, subst, arith, ap, sym}
use Rattle.std.proofs.Common.{◌∙◌, add-one, eq-eqb, drop-cons, false, true, inl, inr}
use Rattle.std.specs.List.{list_all}
use Rattle.std.proofs.lemmas.List.{take_more, get_or-drop, append-nil, append_assoc}
use Rattle.std.proofs.lemmas.Bool.{and_parts}
use Rattle.std.proofs.lemmas.Bool.Decides.{eqb_tells}
use Rattle.texts.specs.Reading.{Reading, read_from, after_line}
use Rattle.texts.specs.TestLaws.{not_true, cases_of, same_ok}

-- a range that is one longer
range_more : (xs : List ℕ) (start i : ℕ) → start ≤ i → i < length xs →
    slice_range xs start (i + 1) ≡ slice_range xs start i ++ get_or xs i 0 ∷ []
range_more xs start i from within =
    let inside : i - start < length (drop start xs) = rw (length-drop start xs) (omega arith) in
    let width : i + 1 - start ≡ i - start + 1 = omega arith in
    let place : start + (i - start) ≡ i = omega arith in
    rw (
      width,
      take_more (drop start xs)
          (i - start) 0 inside,
      get_or-drop start xs (i - start) 0,
      place,
    ) refl

-- what is left begins with the next one
front_of : (xs : List ℕ) (i : ℕ) → i < length xs → drop i xs ≡ get_or xs i 0 ∷ drop (i + 1) xs
front_of xs i within = rw (drop-cons xs i 0 within, add-one) refl

-- a test that fails
is_false : (a b : ℕ) → (a ≡ b → ⊥) → (a == b) ≡ false
is_false a b differ = elim (eqb_tells a b) [ inl h ↦ absurd (differ h.1) | inr h ↦ h.0 ]

module _ {S F : Type 0} (step : S → List ℕ → Result S F) (unended : F) where
  -- a text that was read
  abbrev done : S → Reading S F
  done s = Ok s

  -- reading on in line k, which began at `start`, gives what reading the whole text gives
  abbrev pub ReadsOn : List ℕ → Reading S F → ℕ → S → ℕ → ℕ → Type 0
  ReadsOn text whole k s start i = record {
    numbered : k ≤ i + 1;
    begun : start ≤ i;
    rest : read_from step unended k s (slice_range text start i) (drop i text) ≡ whole;
  }

  -- a byte that is no newline belongs to its line
  pub byte_read : (text : List ℕ) (whole : Reading S F) (k : ℕ) (s : S) (start i : ℕ) →
      ReadsOn text whole k s start i → i < length text → (get_or text i 0 ≡ 10 → ⊥) →
      ReadsOn text whole k s start (i + 1)
  byte_read text whole k s start i before within plain = record {
    numbered = omega (arith, before.numbered);
    begun = omega (arith, before.begun);
    rest = sym step_is ∙ before.rest;
  }
    where
      step_is : read_from step unended k s (slice_range text start i) (drop i text)
          ≡ read_from step unended k s (slice_range text start (i + 1)) (drop (i + 1) text)
      step_is = rw (
        front_of text i within,
        is_false (get_or text i 0) 10 plain,
        range_more text start i before.begun within,
      ) refl

  -- a newline ends its line
  pub line_read : (text : List ℕ) (whole : Reading S F) (k : ℕ) (s t : S) (start i : ℕ) →
      ReadsOn text whole k s start i → i < length text → get_or text i 0 ≡ 10 →
      step s (slice_range text start i) ≡ Ok t → ReadsOn text whole (k + 1) t (i + 1) (i + 1)
  line_read text whole k s t start i before within newline is = record {
    numbered = omega (arith, before.numbered);
    begun = omega arith;
    rest = sym step_is ∙ before.rest;
  }
    where
      none : i + 1 - (i + 1) ≡ 0
      none = omega arith

      step_is : read_from step unended k s (slice_range text start i) (drop i text)
          ≡ read_from step unended (k + 1) t (slice_range text (i + 1) (i + 1)) (drop (i + 1) text)
      step_is = rw (front_of text i within, eq-eqb (get_or text i 0) 10 newline, is, none) refl

  -- a line of which some was read, and the newline after it
  pub one_line : (k : ℕ) (s : S) (front line rest : List ℕ) → list_all (λ b. not (b == 10)) line
      ≡ true →
      read_from step unended k s front (line ++ 10 ∷ rest) ≡ after_line k (step s (front ++ line))
      (λ t. read_from step unended (k + 1) t [] rest)
  one_line k s front [] rest plain = rw (append-nil front) refl
  one_line k s front (c ∷ line) rest plain =
      let both = and_parts (not (c == 10)) (list_all (λ b. not (b == 10)) line) plain in
      rw (not_true (c == 10) both.0)
      (one_line k s (front ++ c ∷ []) line rest both.1
      ∙ ap (λ (u : List ℕ). after_line k (step s u) (λ t. read_from step unended (k + 1) t [] rest))
      (append_assoc front (c ∷ []) line))

  -- what each line keeps holds after the text
  pub kept : (P : S → Type 0) → ((s t : S) (line : List ℕ) → P s → step s line ≡ Ok t → P t) →
      (k : ℕ) (s t : S) (line text : List ℕ) → P s → read_from step unended k s line text ≡ Ok t →
      P t
  kept P each k s t line [] h e =
      elim (cases_of (length line == 0) (done s) (Err (unended, k)) (done t) e) [
        | inl said ↦ subst P (same_ok s t said.1) h
        | inr other ↦ absurd cc
      ]
  kept P each k s t line (b ∷ bs) h e =
      elim (cases_of (b == 10)
      (after_line k (step s line) (λ u. read_from step unended (k + 1) u [] bs))
      (read_from step unended k s (line ++ b ∷ []) bs) (done t) e) [
        | inl said ↦ newline (λ u g f. kept P each (k + 1) u t [] bs g f) (step s line) refl said.1
        | inr other ↦ kept P each k s t (line ++ b ∷ []) bs h other.1
      ]
    where
      newline : ((u : S) → P u → read_from step unended (k + 1) u [] bs ≡ Ok t → P t) →
          (r : Result S F) → step s line ≡ r →
          after_line k r (λ u. read_from step unended (k + 1) u [] bs) ≡ done t → P t
      newline go (Ok u) is f = go u (each s u line h is) f
      newline go (Err x) is f = absurd cc

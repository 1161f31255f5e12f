-- Lemmas on lines: what is read block by block has the lines of the whole.
use Rattle.std.proofs.Common.{◌≡◌, ◌<◌, ◌≤◌, ℕ, suc, true, false, List, [], ◌∷◌, ◌++◌, filter}
use Rattle.std.proofs.Common.{arith, refl, sym, ap, ◌∙◌, inl, inr, length, append_assoc, append-nil}
use Rattle.std.proofs.Common.{All, lt-ltb}
use Rattle.std.specs.List.{slice_split, onto_first}
use Rattle.std.proofs.lemmas.Bool.{cases_Bool}
use Rattle.std.proofs.lemmas.List.Elements.{filter-append}
use Rattle.std.proofs.lemmas.List.Splits.{slice_split-cons_yes, slice_split-cons_no, length-slice_split}
use Rattle.std.proofs.lemmas.List.Splits.{slice_split_none}
use Rattle.surveys.specs.Lines.{is_end, is_some_line, lines, IsWhole}

-- what is put onto the first of some parts
onto_append : (x : ℕ) (xs ys : List (List ℕ)) → 0 < length xs → onto_first x (xs ++ ys) ≡ onto_first x xs ++ ys
onto_append x [] ys some = absurd (omega (arith, some))
onto_append x (part ∷ parts) ys some = refl

-- there is always a part
some_part : (bytes : List ℕ) → 0 < length (slice_split is_end bytes)
some_part bytes = omega (arith, length-slice_split is_end bytes)

-- the parts before and after an end of a line
split_end : (front back : List ℕ) → slice_split is_end (front ++ 10 ∷ back)
    ≡ slice_split is_end front ++ slice_split is_end back
split_end [] back = refl
split_end (x ∷ front) back = elim (cases_Bool (is_end x)) [
  | inl ends ↦ slice_split-cons_yes is_end x (front ++ 10 ∷ back) ends
      ∙ (ap (λ (parts : List (List ℕ)). [] ∷ parts) (split_end front back)
      ∙ sym (ap (λ (parts : List (List ℕ)). parts ++ slice_split is_end back)
      (slice_split-cons_yes is_end x front ends)))
  | inr other ↦ slice_split-cons_no is_end x (front ++ 10 ∷ back) other
      ∙ (ap (λ (parts : List (List ℕ)). onto_first x parts) (split_end front back)
      ∙ (onto_append x (slice_split is_end front) (slice_split is_end back) (some_part front)
      ∙ sym (ap (λ (parts : List (List ℕ)). parts ++ slice_split is_end back)
      (slice_split-cons_no is_end x front other))))
]

-- the lines before and after an end of a line
pub lines_end : (front back : List ℕ) → lines (front ++ 10 ∷ back) ≡ lines front ++ lines back
lines_end front back = ap (filter is_some_line) (split_end front back)
    ∙ filter-append is_some_line (slice_split is_end front) (slice_split is_end back)

-- nothing is whole
pub whole_nil : IsWhole []
whole_nil more = refl

-- an end of a line changes nothing
pub lines_ended : (bytes : List ℕ) → lines (bytes ++ 10 ∷ []) ≡ lines bytes
lines_ended bytes = lines_end bytes [] ∙ append-nil (lines bytes)

-- what ends with an end of a line is whole
pub whole_end : (bytes : List ℕ) → IsWhole (bytes ++ 10 ∷ [])
whole_end bytes more = ap lines (append_assoc bytes (10 ∷ []) more)
    ∙ (lines_end bytes more ∙ ap (λ (ls : List (List ℕ)). ls ++ lines more) (sym (lines_ended bytes)))

-- two whole texts are one
pub whole_append : (front back : List ℕ) → IsWhole front → IsWhole back → IsWhole (front ++ back)
whole_append front back a b more = ap lines (append_assoc front back more)
    ∙ (a (back ++ more)
    ∙ (ap (λ (ls : List (List ℕ)). lines front ++ ls) (b more)
    ∙ (sym (append_assoc (lines front) (lines back) (lines more))
    ∙ ap (λ (ls : List (List ℕ)). ls ++ lines more) (sym (a back)))))

-- without an end of a line there is one line, if it is not empty
pub lines_one : (bytes : List ℕ) → All (λ x. is_end x ≡ false) bytes
    → lines bytes ≡ filter is_some_line (bytes ∷ [])
lines_one bytes none = ap (filter is_some_line) (slice_split_none is_end bytes none)

-- a part more is no line less
no_less : (part : List ℕ) (parts : List (List ℕ)) → length (filter is_some_line parts)
    ≤ length (filter is_some_line (part ∷ parts))
no_less part parts = elim (cases_Bool (is_some_line part)) [
  | inl some ↦ rw some (omega arith)
  | inr none ↦ rw none (omega arith)
]

-- a part with a byte is a line
one_line : (x : ℕ) (part : List ℕ) (parts : List (List ℕ)) → filter is_some_line ((x ∷ part) ∷ parts)
    ≡ (x ∷ part) ∷ filter is_some_line parts
one_line x part parts = let some : is_some_line (x ∷ part) ≡ true = lt-ltb 0 (length (x ∷ part)) (omega arith) in
    rw some refl

-- a byte more in front is one line more at most
more_parts : (x : ℕ) (parts : List (List ℕ)) → length (filter is_some_line (onto_first x parts))
    ≤ suc (length (filter is_some_line parts))
more_parts x [] = omega arith
more_parts x (part ∷ parts) = omega (
  arith,
  ap (λ (ls : List (List ℕ)). length ls) (one_line x part parts),
  no_less part parts,
)

-- there are no more lines than bytes
pub few_lines : (bytes : List ℕ) → length (lines bytes) ≤ length bytes
few_lines [] = omega arith
few_lines (x ∷ bytes) = elim (cases_Bool (is_end x)) [
  | inl ends ↦ omega (
    arith,
    ap (λ (parts : List (List ℕ)). length (filter is_some_line parts)) (slice_split-cons_yes is_end x bytes ends),
    few_lines bytes,
  )
  | inr other ↦ omega (
    arith,
    ap (λ (parts : List (List ℕ)). length (filter is_some_line parts)) (slice_split-cons_no is_end x bytes other),
    more_parts x (slice_split is_end bytes),
    few_lines bytes,
  )
]

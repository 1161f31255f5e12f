-- One line more.
use Rattle.std.proofs.Common.{◌≡◌, ◌+◌, ◌-◌, ◌<◌, ℕ, false, List, [], ◌∷◌, ◌++◌, filter, take, drop}
use Rattle.std.proofs.Common.{length, get_or, arith, sym, ap, ◌∙◌, Some, None, All}
use Rattle.std.proofs.lemmas.Bool.{false_from_ne_true, eqb-true}
use Rattle.std.proofs.lemmas.List.{take-append-drop, drop_more, get_or-take, length-take, append-nil}
use Rattle.std.proofs.lemmas.List.{take_rest, length-drop}
use Rattle.std.proofs.lemmas.List.Elements.{All-from_get_or}
use Rattle.memchr.specs.Find.{IsFirstByte, is_byte}
use Rattle.surveys.specs.Lines.{is_end, is_some_line, lines, IsSplit}
use Rattle.surveys.proofs.LineLemmas.{lines_end, lines_one}

-- the line before the first end of a line, and those after it
pub first_line : (rest : List ℕ) (end : ℕ) → IsFirstByte (is_byte 10) rest (Some end)
    → lines rest ≡ filter is_some_line (take end rest ∷ []) ++ lines (drop (end + 1) rest)
first_line rest end first =
    let front : List ℕ = take end rest in
    let back : List ℕ = drop (end + 1) rest in
    let ten : get_or rest end 0 ≡ 10 = eqb-true (get_or rest end 0) 10 first.1 in
    let cut : front ++ 10 ∷ back ≡ rest =
    ap (λ (x : ℕ). front ++ x ∷ back) (sym ten)
    ∙ (ap (λ (xs : List ℕ). front ++ xs) (sym (drop_more rest end 0 first.0.high)) ∙ take-append-drop end rest) in
    let none : All (λ x. is_end x ≡ false) front =
    All-from_get_or (λ x. is_end x ≡ false) front 0 (λ k low.
    let below : k < end = omega (arith, low, length-take end rest) in
    rw (get_or-take end rest k 0 below) (false_from_ne_true _ (first.0.before k (omega arith) below))) in
    sym (ap lines cut) ∙ (lines_end front back
    ∙ ap (λ (ls : List (List ℕ)). ls ++ lines back) (lines_one front none))

-- the last line
pub last_line : (rest : List ℕ) → IsFirstByte (is_byte 10) rest None
    → lines rest ≡ filter is_some_line (rest ∷ [])
last_line rest none = lines_one rest (All-from_get_or (λ x. is_end x ≡ false) rest 0
    (λ k low. false_from_ne_true _ (none k (omega arith) low)))

-- the bytes are split at the first end of a line
pub split_at : (bytes : List ℕ) (end : ℕ) → IsFirstByte (is_byte 10) bytes (Some end)
    → IsSplit bytes (take end bytes) (take (length bytes - (end + 1)) (drop (end + 1) bytes))
split_at bytes end first = rw (take_rest bytes (end + 1)) record {
  cut = first_line bytes end first;
  shorter = omega (arith, length-drop (end + 1) bytes, first.0.high);
}

-- or are one line
pub split_none : (bytes : List ℕ) → IsFirstByte (is_byte 10) bytes None → 0 < length bytes → IsSplit bytes bytes []
split_none bytes none some = record {
  cut = last_line bytes none ∙ sym (append-nil (filter is_some_line (bytes ∷ [])));
  shorter = some;
}

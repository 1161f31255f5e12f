-- Laws of a name: it has one text.
use Rattle.std.proofs.Common.{◌≡◌, ℕ, ◌-◌, ◌==◌, ◌&&◌, not, nat_lt, nat_le, List, length, drop, replicate}
use Rattle.std.proofs.Common.{slice_index, true, Some, zero, suc, refl, arith, ap, sym, subst}
use Rattle.std.specs.Bool.{Decides}
use Rattle.std.specs.Cmp.{IsEquivalence}
use Rattle.std.specs.Cmp.Lexicographic.{same_text, on_texts_equal}
use Rattle.std.specs.List.{list_all, position_or_len}
use Rattle.std.proofs.lemmas.Bool.{and_parts}
use Rattle.std.proofs.lemmas.List.{drop-replicate, take_at}
use Rattle.std.proofs.lemmas.Option.{cond_some}
use Rattle.program.specs.declared.name.Name.{Name}
use Rattle.program.specs.Names.{is_letter, is_letter_or_digit, is_name, is_zero, name_eq, name_of, name_text}
use Rattle.program.specs.Names.{padded}
use Rattle.texts.specs.TestLaws.{all_also, first_after}

-- the bytes of a name are letters and digits, and then zeros
pub letters : (text : List ℕ) (name : Name) → name_of text ≡ Some name →
    (list_all is_letter_or_digit text ≡ true) × (padded text ≡ name.bytes)
unfolding name_of
letters text name e =
    let read = cond_some (is_name text) (record { bytes = padded text }) name e in
    let first = nat_lt 0 (length text) && is_letter (slice_index text 0) in
    let rest = list_all is_letter_or_digit text in
    let all = and_parts first rest (and_parts (first && rest) (nat_le (length text) 8) read.0).0 in
    (all.1, ap (λ (n : Name). n.bytes) read.1)

-- a letter or digit is no zero
no_zero : (b : ℕ) → is_letter_or_digit b ≡ true → not (is_zero b) ≡ true
no_zero b e = grind (arith, e)

-- a letter or digit is no space
pub no_space : (b : ℕ) → is_letter_or_digit b ≡ true → not (b == 32) ≡ true
no_space b e = grind (arith, e)

-- a letter or digit is no newline
pub no_newline : (b : ℕ) → is_letter_or_digit b ≡ true → not (b == 10) ≡ true
no_newline b e = grind (arith, e)

-- zeros begin at once
zeros_first : (n : ℕ) → position_or_len is_zero (replicate n 0) ≡ 0
zeros_first zero = refl
zeros_first (suc n) = refl

-- a text that is a name is the text of that name
pub name_only : (text : List ℕ) (name : Name) → name_of text ≡ Some name → name_text name ≡ text
name_only text name e =
    let read = letters text name e in
    let plain = all_also is_letter_or_digit (λ b. not (is_zero b)) no_zero text read.0 in
    let zeros : position_or_len is_zero (drop (length text) (replicate 8 0)) ≡ 0 =
    rw (drop-replicate {X = ℕ} (length text) 8 0) (zeros_first (8 - length text)) in
    let at : position_or_len is_zero (padded text) ≡ length text =
    first_after is_zero text (drop (length text) (replicate 8 0)) plain zeros in
    rw (← read.1, at) (take_at text (drop (length text) (replicate 8 0)) (length text) refl)

-- and it is read as that name again
pub name_again : (text : List ℕ) (name : Name) → name_of text ≡ Some name → name_of (name_text name)
    ≡ Some name
name_again text name e = rw (name_only text name e) e

-- names compare as texts do
pub name_laws : IsEquivalence name_eq
name_laws = on_texts_equal (λ (n : Name). n.bytes)

-- names that compare equal are one name
pub same_name : (a b : Name) → name_eq a b ≡ true → a ≡ b
same_name a b e = ap (λ (bs : List ℕ). let n : Name = record { bytes = bs } in n)
    (same_text a.bytes b.bytes (sym e))

-- and names that are one compare equal
pub name_decides : (a b : Name) → Decides (name_eq a b) (a ≡ b)
name_decides a b = (same_name a b, λ same. subst (λ n. name_eq a n ≡ true) same (name_laws.refl a))

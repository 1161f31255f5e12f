-- The lines of bytes of which others are masked.
use Rattle.std.proofs.Common.{◌≡◌, ◌∙◌, ◌<◌, ◌++◌, ◌∷◌, [], ℕ, List, Option, None, Some, ap, append-nil, arith, is_some}
use Rattle.std.proofs.Common.{if◌then◌else◌, true≢false, drop, filter, inl, inr, length, refl, suc, sym, take, true}
use Rattle.std.proofs.Common.{false, zero}
use Rattle.std.specs.List.{onto_first, slice_split}
use Rattle.std.proofs.lemmas.Bool.{cases_Bool}
use Rattle.std.proofs.lemmas.List.Elements.{filter-append}
use Rattle.std.proofs.lemmas.List.Splits.{length-slice_split}
use Rattle.surveys.specs.Lines.{is_end, is_some_line}
use Rattle.surveys.specs.Ranges.{at_most, masked}

-- the parts of bytes
abbrev parts : List ℕ → List (List ℕ)
parts bytes = slice_split is_end bytes

-- the lines of parts
abbrev some : List (List ℕ) → List (List ℕ)
some all = filter is_some_line all

-- some parts that are a part at least
abbrev SomePart : List (List ℕ) → Type 0
SomePart all = (part : List ℕ) × (rest : List (List ℕ)) × (all ≡ part ∷ rest)

first_part : (all : List (List ℕ)) → 0 < length all → SomePart all
first_part [] one = absurd (omega (arith, one))
first_part (part ∷ rest) one = (part, rest, refl)

some_part : (bytes : List ℕ) → SomePart (parts bytes)
some_part bytes = first_part (parts bytes) (omega (arith, length-slice_split is_end bytes))

take_nil : (n : ℕ) → ◌≡◌ {A = List (List ℕ)} (take n []) []
take_nil zero = refl
take_nil (suc n) = refl

drop_nil : (n : ℕ) → ◌≡◌ {A = List (List ℕ)} (drop n []) []
drop_nil zero = refl
drop_nil (suc n) = refl

none_at_most : (count : Option ℕ) → at_most count [] ≡ []
none_at_most None = refl
none_at_most (Some n) = take_nil n

-- what is masked to its end has no lines
no_lines : (bytes : List ℕ) → some (parts (masked 0 (Some 0) bytes)) ≡ []
no_lines [] = refl
no_lines (b ∷ bytes) = no_lines bytes

-- the first parts of bytes that are masked after them, and others without a line
abbrev AreFirst : ℕ → List ℕ → Type 0
AreFirst n bytes = (others : List (List ℕ)) × (some others ≡ [])
    × (parts (masked 0 (Some (suc n)) bytes) ≡ take (suc n) (parts bytes) ++ others)

-- a byte that ends no line belongs to the first part
after_other : (b : ℕ) (bytes : List ℕ) (n : ℕ) → is_end b ≡ false → AreFirst n bytes → AreFirst n (b ∷ bytes)
after_other b bytes n other (others, none, is) = let (part, rest, whole) = some_part bytes in (
  others,
  none,
  rw other (ap (onto_first b) (is ∙ ap (λ (all : List (List ℕ)). take (suc n) all ++ others) whole)
      ∙ sym (ap (λ (all : List (List ℕ)). take (suc n) (onto_first b all) ++ others) whole)),
)

-- the end of the last of them
last_end : (b : ℕ) (bytes : List ℕ) → is_end b ≡ true → AreFirst 0 (b ∷ bytes)
last_end b bytes ends = (parts (masked 0 (Some 0) bytes), no_lines bytes, rw ends refl)

-- the end of another
after_end : (b : ℕ) (bytes : List ℕ) (n : ℕ) → is_end b ≡ true → AreFirst n bytes → AreFirst (suc n) (b ∷ bytes)
after_end b bytes n ends (others, none, is) = (others, none, rw ends (ap (λ (all : List (List ℕ)). [] ∷ all) is))

first_parts : (bytes : List ℕ) (n : ℕ) → AreFirst n bytes
first_parts [] n = ([], refl, ap (λ (all : List (List ℕ)). ([] ∷ all) ++ []) (sym (take_nil n)))
first_parts (b ∷ bytes) zero = elim (cases_Bool (is_end b)) [
  | inl ends ↦ last_end b bytes ends
  | inr other ↦ after_other b bytes zero other (first_parts bytes zero)
]
first_parts (b ∷ bytes) (suc n) = elim (cases_Bool (is_end b)) [
  | inl ends ↦ after_end b bytes n ends (first_parts bytes n)
  | inr other ↦ after_other b bytes (suc n) other (first_parts bytes (suc n))
]

-- where no line comes before
masked_after : (bytes : List ℕ) (count : Option ℕ)
    → some (parts (masked 0 count bytes)) ≡ some (at_most count (parts bytes))
masked_after [] None = refl
masked_after (b ∷ bytes) None = refl
masked_after bytes (Some zero) = no_lines bytes
masked_after bytes (Some (suc n)) = let (others, none, is) = first_parts bytes n in
    ap some is ∙ filter-append is_some_line (take (suc n) (parts bytes)) others
    ∙ ap (λ (all : List (List ℕ)). some (take (suc n) (parts bytes)) ++ all) none
    ∙ append-nil (some (take (suc n) (parts bytes)))

-- the lines of bytes that are masked are those of a range
pub masked_lines : (bytes : List ℕ) (before : ℕ) (count : Option ℕ)
    → some (parts (masked before count bytes)) ≡ some (at_most count (drop before (parts bytes)))
masked_lines bytes zero count = masked_after bytes count
masked_lines [] (suc n) count = sym (ap (λ (all : List (List ℕ)). some (at_most count all)) (drop_nil n)
    ∙ ap some (none_at_most count))
masked_lines (b ∷ bytes) (suc n) count = elim (cases_Bool (is_end b)) [
  | inl ends ↦ rw ends (masked_lines bytes n count)
  | inr other ↦ let (part, rest, whole) = some_part bytes in rw other (masked_lines bytes (suc n) count
      ∙ ap (λ (all : List (List ℕ)). some (at_most count (drop (suc n) all))) whole
      ∙ sym (ap (λ (all : List (List ℕ)). some (at_most count (drop (suc n) (onto_first b all)))) whole))
]

-- no byte goes, and none comes
pub masked_length : (bytes : List ℕ) (before : ℕ) (count : Option ℕ)
    → length (masked before count bytes) ≡ length bytes
masked_length [] before count = refl
masked_length (b ∷ bytes) (suc n) count = ap suc (masked_length bytes (if is_end b then n else suc n) count)
masked_length (b ∷ bytes) zero None = refl
masked_length (b ∷ bytes) zero (Some zero) = ap suc (masked_length bytes zero (Some zero))
masked_length (b ∷ bytes) zero (Some (suc n)) =
    ap suc (masked_length bytes zero (Some (if is_end b then n else suc n)))

-- without a range all bytes stay
pub unmasked : (bytes : List ℕ) → masked zero None bytes ≡ bytes
unmasked [] = refl
unmasked (b ∷ bytes) = refl

pub unmasked_by : (before : ℕ) (count : Option ℕ) → before ≡ 0 → count ≡ None → (bytes : List ℕ)
    → masked before count bytes ≡ bytes
unmasked_by before count first all bytes = rw first (rw all (unmasked bytes))

-- an option that is none
pub no_count : (count : Option ℕ) → is_some count ≡ false → count ≡ None
no_count None none = refl
no_count (Some n) none = absurd (true≢false none)

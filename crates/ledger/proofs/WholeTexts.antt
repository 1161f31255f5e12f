-- Whole texts, part by part.
use Rattle.std.proofs.Common.{◌≡◌, ◌∙◌, ◌<◌, ◌^◌, ◌+◌, ◌++◌, ℕ, Bool, List, Option, None, Some, append_assoc, arith}
use Rattle.std.proofs.Common.{codes, get_or, inl, inr, length, position, refl, sym, eq-eqb, false, nat_eq, ne_eqb, true}
use Rattle.std.proofs.Common.{◌∷◌, [], count_by}
use Rattle.std.proofs.lemmas.Bool.{cases_lt}
use Rattle.std.proofs.lemmas.List.{get_or_past}
use Rattle.std.proofs.lemmas.List.Quantifiers.{position-Some}
use Rattle.std.proofs.lemmas.List.Sums.{count_by-le-length}
use Rattle.ledger.specs.declared.code.TheConstants.{LONG_CYCLE}
use Rattle.ledger.specs.declared.ledger.Ledger.{Ledger}
use Rattle.ledger.specs.Counts.{AddsUp, AreCounts, IsLedger}
use Rattle.ledger.specs.Kinds.{is_unjudged, is_cycle_of}
use Rattle.ledger.specs.LedgerLaws.{adds_up}
use Rattle.ledger.specs.Real.{AreApart, FirstsFit, HasCodes, IsFirstOf, violation_count}
use Rattle.ledger.proofs.RealLemmas.{firsts_fit, fitting_has_codes}
use Rattle.ledger.specs.Counted.{count_line, cycle_lines, first_line, ledger_text}
use Rattle.ledger.specs.declared.text_kind.Kind.{Kind}
use Rattle.ledger.specs.declared.text_kind.Kind.TheVariants.{Campaign, Survey}
use Rattle.ledger.specs.Parts.{Are64Bit, Is64BitPlace, IsReadOf, other_place, place_beside, place_read, tail}
use Rattle.ledger.specs.TextOf.{HasUnjudgedOf}
use Rattle.ledger.specs.Texts.{all_name, noun, text_of, unjudged_name}
use Rattle.ledger.proofs.TextOfLemmas.{whole, whole_is}

-- what was found is what was sought
pub same_some : {A : Type 0} (a b : A) → Some a ≡ Some b → a ≡ b
same_some a b same = cc

-- a text, line by line
pub text_then : (kind : Kind) (l : Ledger) (more : List ℕ) → text_of kind l ++ more
    ≡ count_line (all_name kind) l.total ++ (count_line (codes "ordered") l.ordered
    ++ (count_line (unjudged_name kind) l.unjudged ++ (count_line (codes "overlook") l.overlook
    ++ (cycle_lines l.cycles.items (length l.cycles.items) ++ (first_line (codes "violation") (noun kind) l.first
    ++ (tail kind l.first_unjudged ++ more))))))
text_then kind l more = whole kind
    ∙ six (count_line (all_name kind) l.total) (count_line (codes "ordered") l.ordered)
    (count_line (unjudged_name kind) l.unjudged) (count_line (codes "overlook") l.overlook)
    (cycle_lines l.cycles.items (length l.cycles.items)) (first_line (codes "violation") (noun kind) l.first)
    (tail kind l.first_unjudged ++ more)
  where
    six : (a b c d e f g : List ℕ)
        → (((((a ++ b) ++ c) ++ d) ++ e) ++ f) ++ g ≡ a ++ (b ++ (c ++ (d ++ (e ++ (f ++ g)))))
    six a b c d e f g = simp append_assoc

    whole : (kind : Kind) → text_of kind l ++ more
        ≡ ledger_text (all_name kind) (unjudged_name kind) (noun kind) l ++ (tail kind l.first_unjudged ++ more)
    whole Campaign = refl
    whole Survey = append_assoc (ledger_text (all_name Survey) (unjudged_name Survey) (noun Survey) l)
        (tail Survey l.first_unjudged) more

-- what few codes have has 64 bits: how many pass a test, for each length how many are cycles of it, and a first place
pub short_count : (p : ℕ → Bool) (codes : List ℕ) (n : ℕ) → length codes < 2 ^ 64 → n ≡ count_by p codes → n < 2 ^ 64
short_count p codes n few is = omega (arith, few, is, count_by-le-length p codes)

pub short_cycles : (codes counts : List ℕ) → length codes < 2 ^ 64 → length counts ≡ LONG_CYCLE + 1
    → AreCounts codes counts → Are64Bit counts
short_cycles codes counts few size are n = elim (cases_lt n (LONG_CYCLE + 1)) [
  | inl low ↦ short_count (is_cycle_of n) codes (get_or counts n 0) few (are n (omega (arith, low)))
  | inr past ↦ omega (arith, get_or_past counts n 0 (omega (arith, past, size)))
]

pub short_place : (p : ℕ → Bool) (codes : List ℕ) (o : Option ℕ) → length codes < 2 ^ 64 → o ≡ position p codes
    → Is64BitPlace o
short_place p codes None few is = tt
short_place p codes (Some i) few is = omega (arith, few, (position-Some p codes i 0 (sym is)).0)

-- no place is apart from each
apart_none : (ordered : ℕ) (first : Option ℕ) → AreApart ordered first None
apart_none ordered None = tt
apart_none ordered (Some i) = tt

-- a place that is not the first violation's fits
other_fits : (unjudged total ordered violations : ℕ) (first : Option ℕ) → 0 < unjudged
    → ordered + unjudged + violations ≡ total → IsFirstOf violations total first
    → IsFirstOf unjudged total (Some (other_place first)) × AreApart ordered first (Some (other_place first))
other_fits u total ordered violations None some sums fits = ((some, omega (arith, sums)), tt)
other_fits u total ordered violations (Some i) some sums fits = (
  (some, omega (arith, sums, fits.0)),
  (
    (λ same. omega (arith, same)),
    elim (cases_lt 0 i) [ inl after ↦ inr (omega (arith, after)) | inr not ↦ inl (omega (arith, not)) ],
  ),
)

-- a place beside the first violation fits, or none where none is needed
beside_fits : (unjudged total ordered violations : ℕ) (first : Option ℕ) → ordered + unjudged + violations ≡ total
    → IsFirstOf violations total first → IsFirstOf unjudged total (place_beside first unjudged)
    × AreApart ordered first (place_beside first unjudged)
beside_fits u total ordered violations first sums fits = elim (cases_lt 0 u) [
  | inl some ↦ let more : nat_eq u 0 ≡ false = ne_eqb u 0 (λ e. omega (arith, e, some)) in
      rw more (other_fits u total ordered violations first some sums fits)
  | inr not ↦ let none : nat_eq u 0 ≡ true = eq-eqb u 0 (omega (arith, not)) in
      rw none (omega (arith, not), apart_none ordered first)
]

-- what is read of the text of some codes is the ledger of some codes
pub real_again : (kind : Kind) (codes : List ℕ) (l : Ledger) → IsReadOf kind codes l → HasCodes l
real_again kind codes l r = fitting_has_codes l r.tells.lengths sums (record {
  violation = fits.violation;
  unjudged = rw r.place (go kind).0;
  apart = rw r.place (go kind).1;
})
  where
    is : IsLedger codes (whole codes l)
    is = whole_is kind codes l r.tells

    sums : AddsUp l
    sums = adds_up codes (whole codes l) is

    fits : FirstsFit (whole codes l)
    fits = firsts_fit codes (whole codes l) is

    place : Kind → Option ℕ
    place k = place_read k (place_beside l.first l.unjudged) (position is_unjudged codes)

    go : (k : Kind) → IsFirstOf l.unjudged l.total (place k) × AreApart l.ordered l.first (place k)
    go Campaign =
        beside_fits l.unjudged l.total l.ordered (violation_count l) l.first (omega (arith, sums)) fits.violation
    go Survey = (fits.unjudged, fits.apart)

-- the first place of what has no verdict, where a text tells it
pub place_told : (kind : Kind) (codes : List ℕ) (l : Ledger) (other : Option ℕ)
    → l.first_unjudged ≡ place_read kind other (position is_unjudged codes) → HasUnjudgedOf kind codes l
place_told Campaign codes l other is = tt
place_told Survey codes l other is = is

-- no text is empty
byte_some : (xs : List ℕ) (b : ℕ) → 0 < b → get_or xs 0 0 ≡ b → 0 < length xs
byte_some [] b some at = absurd (omega (arith, some, at))
byte_some (x ∷ xs) b some at = omega arith

pub text_some : (kind : Kind) (l : Ledger) → 0 < length (text_of kind l)
text_some Campaign l = byte_some (text_of Campaign l) 116 (omega arith) refl
text_some Survey l = byte_some (text_of Survey l) 114 (omega arith) refl

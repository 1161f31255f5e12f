-- What begins with a section, and what does not.
use Rattle.std.proofs.Common.{◌≡◌, ◌∙◌, ◌<◌, ◌++◌, [], ℕ, List, Option, None, Some, ◌-◌, ap, append_assoc, append-nil}
use Rattle.std.proofs.Common.{arith, length, length-append, take, subst, sym}
use Rattle.std.proofs.Math.Seq.{take-append_seam}
use Rattle.std.specs.Prelude.{IfSome}
use Rattle.headers.specs.declared.header.Header.{Header}
use Rattle.headers.specs.Headers.{IsHeader, header_line}
use Rattle.ledger.specs.declared.ledger.Ledger.{Ledger}
use Rattle.ledger.specs.Counts.{IsLedger}
use Rattle.ledger.specs.Real.{IsFirstOf, violation_count}
use Rattle.ledger.proofs.RealLemmas.{firsts_fit}
use Rattle.headers.specs.declared.header.Counted.{Counted}
use Rattle.headers.specs.declared.header.Counted.TheVariants as counted
use Rattle.ledger.specs.declared.merge_error.TextError.{TextError}
use Rattle.ledger.specs.declared.merge_error.TextError.TheVariants.{Refused, OutOfMemory}
use Rattle.ledger.specs.declared.text_kind.Kind.{Kind}
use Rattle.ledger.specs.Merges.{IsNoText, IsTextRead}
use Rattle.ledger.specs.Sections.{Fits, IsSection, Section, bytes_of, kind_of}
use Rattle.ledger.specs.TextOf.{HasTextOf}
use Rattle.ledger.specs.Texts.{BeginsWithLedger, text_of}
use Rattle.ledger.specs.Unread.{IsNoSection, IsNoSectionUnder}
use Rattle.ledger.proofs.WholeTexts.{same_some}

-- what reading a header tells, where a section begins
abbrev pub Tells : List ℕ → List ℕ → Option Header → Type 0
Tells old new r = (h : Header) (more : List ℕ) → IsHeader h → old ≡ header_line h ++ more → (r ≡ Some h) × (new ≡ more)

-- the header of the section that begins, and its text
pub section_read : (old new : List ℕ) (r : Option Header) (h : Header) (t : Section) (more : List ℕ) → r ≡ Some h
    → Tells old new r → IsSection t → old ≡ bytes_of t ++ more → (h ≡ t.header) × (new ≡ t.text ++ more)
section_read old new r h t more is tells s begins =
    let read = tells t.header (t.text ++ more) s.header
    (begins ∙ append_assoc (header_line t.header) t.text more) in
    (same_some h t.header (sym is ∙ read.0), read.1)

-- a text begins what it stands before
pub text_begins : (kind : Kind) (text more rest codes : List ℕ) → BeginsWithLedger kind codes text []
    → rest ≡ text ++ more → BeginsWithLedger kind codes rest more
text_begins kind text more rest codes b is = record {
  ledger = b.ledger;
  is = b.is;
  few = b.few;
  text = is ∙ ap (λ (l : List ℕ). l ++ more) (b.text ∙ append-nil (text_of kind b.ledger));
}

-- where no text is read, there is no section with the header
pub none_read : (error : TextError) (rest : List ℕ) (h : Header) → IsNoText (kind_of h.counted) rest error
    → IsNoSectionUnder h rest error
none_read OutOfMemory rest h none = tt
none_read (Refused refusal left) rest h none = λ t more s same begins.
    none s.codes more (subst (λ (x : Header). BeginsWithLedger (kind_of x.counted) s.codes rest more) same
    (text_begins (kind_of t.header.counted) t.text more rest s.codes s.text begins))

-- where there is no section with the header that was read, no section begins
pub none_under : (error : TextError) (old new : List ℕ) (r : Option Header) (h : Header) → r ≡ Some h
    → Tells old new r → IsNoSectionUnder h new error → IsNoSection old error
none_under OutOfMemory old new r h is tells none = tt
none_under (Refused refusal left) old new r h is tells none = λ t more s begins.
    let read = section_read old new r h t more is tells s begins in none t more s (sym read.0) read.1

-- a first violation that fits
pub first_low : (codes : List ℕ) (l : Ledger) (what : Counted) (count : ℕ) → IsLedger codes l
    → Fits what count l.total → IfSome l.first (λ k. k < count)
first_low codes l what count is fits = go l.first ((firsts_fit codes l is).violation)
  where
    small : (c : Counted) → Fits c count l.total → (k : ℕ) → k < l.total → k < count
    small (counted.Campaign setup) fits k low = omega (arith, fits, low)
    small counted.Survey fits k low = omega (arith, fits, low)
    small counted.LongSurvey fits k low = omega (arith, fits, low)

    go : (o : Option ℕ) → IsFirstOf (violation_count l) l.total o → IfSome o (λ k. k < count)
    go None fit = tt
    go (Some k) fit = small what fits k (omega (arith, fit.0, fit.1))

-- what is read of a section has as many codes as its header says
pub fits_told : (h : Header) (t : Section) (s : IsSection t) (total : ℕ) → h ≡ t.header → total ≡ length s.codes
    → Fits h.counted h.count total
fits_told h t s total same size =
    subst (λ (x : Header). Fits x.counted x.count total) (sym same)
    (subst (λ (n : ℕ). Fits t.header.counted t.header.count n) (sym size) (s.fits s.codes s.text))

-- a text, cut where it ends
pub text_cut : (text after start : List ℕ) (n : ℕ) → start ≡ text ++ after → n ≡ length start - length after
    → take n start ≡ text
text_cut text after start n is size =
    let long : n ≡ length text = omega (arith, size, ap (λ (l : List ℕ). length l) is, length-append text after) in
    ap (λ (k : ℕ). take k start) long ∙ ap (λ (l : List ℕ). take (length text) l) is ∙ take-append_seam text after

-- the codes of a text, and what is told of them
pub section_of : (kind : Kind) (h : Header) (text rest after : List ℕ) (l : Ledger) → kind ≡ kind_of h.counted
    → IsHeader h → (r : IsTextRead kind rest after l) → text ≡ text_of kind (r.begins).ledger
    → Fits h.counted h.count l.total → IsSection (record { header = h; text = text; violation = l.first })
section_of kind h text rest after l same header r own fits =
    let is : rest ≡ text ++ after = (r.begins).text ∙ ap (λ (t : List ℕ). t ++ after) (sym own) in
    let back : (codes : List ℕ) → BeginsWithLedger (kind_of h.counted) codes text [] → HasTextOf kind codes l =
    λ codes b. (r.only codes after (text_begins kind text after rest codes
    (subst (λ (x : Kind). BeginsWithLedger x codes text []) (sym same) b) is)).1 in
    let begins : BeginsWithLedger kind r.codes text [] = record {
      ledger = (r.begins).ledger;
      is = (r.begins).is;
      few = (r.begins).few;
      text = own ∙ sym (append-nil (text_of kind (r.begins).ledger));
    } in record {
      header = header;
      codes = r.codes;
      text = subst (λ (x : Kind). BeginsWithLedger x r.codes text []) same begins;
      fits = λ others b. subst (λ (n : ℕ). Fits h.counted h.count n) ((back others b).total) fits;
      violation = λ others b. (back others b).first;
      low = first_low r.codes l h.counted h.count r.is fits;
    }

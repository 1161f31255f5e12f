-- Texts with headers, and how they follow each other.
use Rattle.std.specs.Prelude.{◌≡◌, ◌≢◌, ◌+◌, ◌++◌, ◌∷◌, ◌<◌, ◌≤◌, [], ℕ, List, Option, IfSome, All, position, length}
use Rattle.std.specs.List.{flat_map}
use Rattle.headers.specs.declared.header.Counted.{Counted}
use Rattle.headers.specs.declared.header.Counted.TheVariants as counted
use Rattle.headers.specs.declared.header.Header.{Header}
use Rattle.headers.specs.Headers.{IsHeader, header_line}
use Rattle.ledger.specs.Kinds.{is_violation}
use Rattle.ledger.specs.declared.text_kind.Kind.{Kind}
use Rattle.ledger.specs.declared.text_kind.Kind.TheVariants.{Campaign, Survey}
use Rattle.ledger.specs.Texts.{BeginsWithLedger}

-- a text of counts, its header, and the first violation that it tells
pub record Section : Type 0 where
  pub header : Header
  pub text : List ℕ
  pub violation : Option ℕ

-- the kind of what is counted
abbrev pub kind_of : Counted → Kind
kind_of (counted.Campaign setup) = Campaign
kind_of counted.Survey = Survey
kind_of counted.LongSurvey = Survey

-- a campaign counts as many trials as its header says; a survey no more recordings than lines
abbrev pub Fits : Counted → ℕ → ℕ → Type 0
Fits (counted.Campaign setup) count n = n ≡ count
Fits counted.Survey count n = n ≤ count
Fits counted.LongSurvey count n = n ≤ count

-- these codes have the text
abbrev pub IsTextOfCodes : Section → List ℕ → Type 0
IsTextOfCodes s codes = BeginsWithLedger (kind_of s.header.counted) codes s.text []

-- a header and one text, which some codes have, as many as the header says
pub record IsSection (s : Section) : Type 0 where
  pub header : IsHeader s.header
  pub codes : List ℕ
  pub text : IsTextOfCodes s codes
  pub fits : (others : List ℕ) → IsTextOfCodes s others → Fits s.header.counted s.header.count (length others)
  pub violation : (others : List ℕ) → IsTextOfCodes s others → s.violation ≡ position is_violation others
  pub low : IfSome s.violation (λ k. k < s.header.count)

-- the bytes of a section
abbrev pub bytes_of : Section → List ℕ
bytes_of s = header_line s.header ++ s.text

-- the bytes are those of these sections, one after another
pub record HasSections (sections : List Section) (bytes : List ℕ) : Type 0 where
  pub some : bytes ≢ []
  pub are : All IsSection sections
  pub all : bytes ≡ flat_map bytes_of sections

-- so it is of each file, of which each has some
abbrev pub AreSectionsOf : List (List ℕ) → List Section → Type 0
AreSectionsOf [] sections = sections ≡ []
AreSectionsOf (bytes ∷ files) sections = (front : List Section) × (back : List Section) × HasSections front bytes
    × AreSectionsOf files back × (sections ≡ front ++ back)

-- what they count is the same
abbrev pub AreOf : Counted → List Section → Type 0
AreOf counted sections = All (λ s. s.header.counted ≡ counted) sections

abbrev pub AreAlike : List Section → Type 0
AreAlike sections = (counted : Counted) × AreOf counted sections

-- the files are these sections, which count the same
pub record AreSections (files : List (List ℕ)) (sections : List Section) : Type 0 where
  pub are : AreSectionsOf files sections
  pub alike : AreAlike sections

-- the number after the last seed or line
abbrev pub end_of : Section → ℕ
end_of s = s.header.first + s.header.count

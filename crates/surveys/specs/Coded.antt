-- The codes of lines.
use Rattle.std.specs.Prelude.{◌≡◌, ℕ, List}
use Rattle.ledger.specs.declared.finding.Finding.{Finding}
use Rattle.surveys.specs.declared.kind.LineKind.{LineKind}
use Rattle.surveys.specs.Found.{AreFindings, codes_of}
use Rattle.surveys.specs.Lines.{lines}

-- the codes of what is found in lines, in order
pub record AreFindingCodes (kind : LineKind) (all : List (List ℕ)) (codes : List ℕ) : Type 0 where
  pub findings : List Finding
  pub found : AreFindings kind all findings
  pub are : codes ≡ codes_of findings

-- in all lines of the bytes
abbrev pub AreLineCodes : LineKind → List ℕ → List ℕ → Type 0
AreLineCodes kind bytes codes = AreFindingCodes kind (lines bytes) codes

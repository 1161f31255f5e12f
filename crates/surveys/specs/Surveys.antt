-- What a survey counts, and what it tells.
use Rattle.std.specs.Prelude.{◌≤◌, ◌^◌, ℕ, [], List, Option, Bool, true, false, length, ⊤}
use Rattle.std.specs.Io.KnownBytes.{Appends, Consumes}
use Rattle.ledger.specs.declared.finding.Finding.{Finding}
use Rattle.ledger.specs.declared.survey_ledger.SurveyLedger.{SurveyLedger}
use Rattle.ledger.specs.Surveyed.{IsSurveyLedger}
use Rattle.surveys.specs.declared.kind.LineKind.{LineKind}
use Rattle.surveys.specs.declared.reports.Reports.{Reports}
use Rattle.surveys.specs.declared.reports.Reports.TheVariants.{EachLine, NoLine}
use Rattle.surveys.specs.declared.error.SurveyError.{SurveyError}
use Rattle.devices.specs.declared.whole.ReadError.{ReadError}
use Rattle.devices.specs.declared.whole.ReadError.TheVariants as errors
use Rattle.surveys.specs.declared.error.SurveyError.TheVariants.{ReadFailed, WriteFailed, OutOfMemory, TooLong}
use Rattle.surveys.specs.Each.{each_text}
use Rattle.surveys.specs.Found.{AreFindings, codes_of}
use Rattle.surveys.specs.Lines.{IsCut, lines}

-- what is reported of recordings, of which the first has this number: of each its line, or nothing
abbrev pub told_text : Reports → ℕ → List Finding → List ℕ
told_text EachLine first findings = each_text first findings
told_text NoLine first findings = []

-- what is found in lines, in order: the ledger of its codes, and what is reported of it
pub record IsSurveyOfLines (kind : LineKind) (all : List (List ℕ)) (ledger : SurveyLedger) (reports : Reports)
    (before after : Option (List ℕ))
    : Type 0 where
  pub findings : List Finding
  pub found : AreFindings kind all findings
  pub counted : IsSurveyLedger (codes_of findings) ledger
  pub told : Appends before after (told_text reports 0 findings)

-- in all lines of the bytes
abbrev pub IsSurvey : LineKind → List ℕ → SurveyLedger → Reports → Option (List ℕ) → Option (List ℕ) → Type 0
IsSurvey kind bytes ledger reports before after = IsSurveyOfLines kind (lines bytes) ledger reports before after

-- in all lines of the bytes but those of the rest
pub record IsSurveyUpTo (kind : LineKind) (bytes rest : List ℕ) (ledger : SurveyLedger) (reports : Reports)
    (before after : Option (List ℕ))
    : Type 0 where
  pub front : List (List ℕ)
  pub cut : IsCut bytes front rest
  pub survey : IsSurveyOfLines kind front ledger reports before after

-- what is surveyed up to some bytes of whatever, is then up to what comes after
abbrev pub ExtendsSurvey : LineKind → List ℕ → List ℕ → Reports → SurveyLedger → Option (List ℕ) → SurveyLedger
    → Option (List ℕ) → Type 0
ExtendsSurvey kind bytes rest reports old was new is = (all : List ℕ) (start : Option (List ℕ))
    → IsSurveyUpTo kind all bytes old reports start was → IsSurveyUpTo kind all rest new reports start is

-- in all lines of the bytes that were read
pub record IsSurveyOfRead (kind : LineKind) (left_before left_after : Option (List ℕ)) (ledger : SurveyLedger)
    (reports : Reports)
    (before after : Option (List ℕ)) : Type 0 where
  pub bytes : List ℕ
  pub read : Consumes left_before left_after bytes
  pub survey : IsSurvey kind bytes ledger reports before after

-- what is said of a source that was not read
abbrev pub survey_error_of : ReadError → SurveyError
survey_error_of errors.ReadFailed = ReadFailed
survey_error_of errors.OutOfMemory = OutOfMemory

-- a read failed
abbrev pub is_read_failure : SurveyError → Bool
is_read_failure ReadFailed = true
is_read_failure other = false

-- a write failed
abbrev pub is_write_failure : SurveyError → Bool
is_write_failure WriteFailed = true
is_write_failure other = false

-- so many bytes are too many only where they are 2^64 or more
abbrev pub IsLong : SurveyError → ℕ → Type 0
IsLong TooLong n = 2 ^ 64 ≤ n
IsLong other n = ⊤

-- the same of the bytes that were read
abbrev pub IsLongRead : SurveyError → Option (List ℕ) → Option (List ℕ) → Type 0
IsLongRead TooLong left_before left_after =
    (bytes : List ℕ) × Consumes left_before left_after bytes × (2 ^ 64 ≤ length bytes)
IsLongRead other left_before left_after = ⊤

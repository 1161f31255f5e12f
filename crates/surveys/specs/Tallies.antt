-- What is known while a source is surveyed block by block.
use Rattle.std.specs.Prelude.{◌≡◌, ◌++◌, ℕ, List, Option, length}
use Rattle.std.specs.Io.KnownBytes.{Consumes}
use Rattle.ledger.specs.declared.survey_ledger.SurveyLedger.{SurveyLedger}
use Rattle.surveys.specs.declared.kind.LineKind.{LineKind}
use Rattle.surveys.specs.declared.reports.Reports.{Reports}
use Rattle.surveys.specs.Lines.{IsWhole}
use Rattle.surveys.specs.Surveys.{IsSurvey}

module _ (kind : LineKind) (reports : Reports) where
  -- the first bytes, n of them, after which a line begins, and what is found in their lines
  pub record IsTally (front : List ℕ) (ledger : SurveyLedger) (n : ℕ) (start now : Option (List ℕ)) : Type 0 where
    pub whole : IsWhole front
    pub survey : IsSurvey kind front ledger reports start now
    pub size : n ≡ length front

  -- a tally of whatever bytes is one with these bytes more
  abbrev pub Grows : List ℕ → SurveyLedger → ℕ → Option (List ℕ) → SurveyLedger → ℕ → Option (List ℕ) → Type 0
  Grows more old n was new m is = (front : List ℕ) (start : Option (List ℕ)) → IsTally front old n start was
      → IsTally (front ++ more) new m start is

  -- a survey of whatever tallied bytes is one with these bytes more
  abbrev pub Ends : List ℕ → SurveyLedger → ℕ → Option (List ℕ) → SurveyLedger → Option (List ℕ) → Type 0
  Ends last old n was new is = (front : List ℕ) (start : Option (List ℕ)) → IsTally front old n start was
      → IsSurvey kind (front ++ last) new reports start is

  -- some bytes of the block were tallied, and the others are left
  pub record IsTallied (block rest : List ℕ) (old : SurveyLedger) (n : ℕ) (was : Option (List ℕ))
      (new : SurveyLedger) (m : ℕ)
      (is : Option (List ℕ)) : Type 0 where
    pub more : List ℕ
    pub cut : block ≡ more ++ rest
    pub grows : Grows more old n was new m is

  -- of what was read so far the first bytes were tallied, and the others are in the block
  pub record IsUnderWay (left_before left_now : Option (List ℕ)) (ledger : SurveyLedger) (n : ℕ) (block : List ℕ)
      (start now : Option (List ℕ)) : Type 0 where
    pub front : List ℕ
    pub tally : IsTally front ledger n start now
    pub read : Consumes left_before left_now (front ++ block)

-- The recordings that bytes are have one survey.
use Rattle.std.specs.Prelude.{◌≡◌, ℕ, List, Option, Some}
use Rattle.ledger.specs.declared.finding.Finding.{Finding}
use Rattle.ledger.specs.declared.survey_ledger.SurveyLedger.{SurveyLedger}
use Rattle.ledger.specs.Counts.{IsSameLedger}
use Rattle.surveys.specs.declared.kind.LineKind.TheVariants.{Recording}
use Rattle.surveys.specs.declared.reports.Reports.{Reports}
use Rattle.surveys.specs.Found.{IsLineFinding}
use Rattle.surveys.specs.Surveys.{IsSurvey}

-- one thing is found in a line that is a recording
abbrev pub EveryLineHasOneFinding : Type 0
EveryLineHasOneFinding = (bytes : List ℕ) (f g : Finding) → IsLineFinding Recording bytes f
    → IsLineFinding Recording bytes g → f ≡ g

-- two surveys of the same bytes count the same
abbrev pub EverySurveyCountsTheSame : Type 0
EverySurveyCountsTheSame = (bytes : List ℕ) (l m : SurveyLedger) (reports other : Reports) (s t u v : Option (List ℕ))
    → IsSurvey Recording bytes l reports s t → IsSurvey Recording bytes m other u v → IsSameLedger l.ledger m.ledger

-- and tell the same
abbrev pub EverySurveyTellsTheSame : Type 0
EverySurveyTellsTheSame = (bytes : List ℕ) (l m : SurveyLedger) (reports : Reports) (start said told : List ℕ)
    → IsSurvey Recording bytes l reports (Some start) (Some said)
    → IsSurvey Recording bytes m reports (Some start) (Some told)
    → said ≡ told

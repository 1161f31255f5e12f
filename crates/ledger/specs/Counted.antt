-- The texts of ledgers.
use Rattle.std.specs.Prelude.{◌++◌, ◌∷◌, [], ◌==◌, ℕ, zero, suc, List, Option, None, Some, codes, decimal, length}
use Rattle.std.specs.Prelude.{slice_index, if◌then◌else◌, nat_lt}
use Rattle.ledger.specs.declared.code.TheConstants.{LONG_CYCLE}
use Rattle.ledger.specs.declared.ledger.Ledger.{Ledger}
use Rattle.ledger.specs.declared.survey_ledger.SurveyLedger.{SurveyLedger}

-- the line of how many there are of a kind
abbrev pub count_line : List ℕ → ℕ → List ℕ
count_line name count = name ++ 32 ∷ (decimal count ++ 10 ∷ [])

-- a length of cycles, or that it stands for all that are longer than a program
abbrev pub length_name : ℕ → List ℕ
length_name cycle = if nat_lt cycle LONG_CYCLE then decimal cycle else codes "over 512"

-- the line of a length of cycles and how many recordings have one, unless none has
abbrev pub cycle_line : ℕ → ℕ → List ℕ
cycle_line cycle count =
    if count == 0 then []
    else codes "cycle " ++ length_name cycle ++ codes ": " ++ decimal count ++ 10 ∷ []

-- the lines of the lengths below n
unfoldable pub cycle_lines : List ℕ → ℕ → List ℕ
cycle_lines counts zero = []
cycle_lines counts (suc n) = cycle_lines counts n ++ cycle_line n (slice_index counts n)

-- what is printed of a place, or of none
abbrev pub place_name : List ℕ → Option ℕ → List ℕ
place_name noun None = codes "none"
place_name noun (Some place) = noun ++ 32 ∷ decimal place

-- the line of the first of a kind
abbrev pub first_line : List ℕ → List ℕ → Option ℕ → List ℕ
first_line name noun first = codes "first " ++ name ++ codes ": " ++ place_name noun first ++ 10 ∷ []

-- how many there are in all and of which kinds, the lengths of cycles, and the first violation
abbrev pub ledger_text : List ℕ → List ℕ → List ℕ → Ledger → List ℕ
ledger_text all unjudged noun l =
    count_line all l.total ++ count_line (codes "ordered") l.ordered ++ count_line unjudged l.unjudged
    ++ count_line (codes "overlook") l.overlook ++ cycle_lines l.cycles.items (length l.cycles.items)
    ++ first_line (codes "violation") noun l.first

-- that of the trials of a campaign
abbrev pub campaign_text : Ledger → List ℕ
campaign_text l = ledger_text (codes "trials") (codes "unfinished") (codes "trial") l

-- that of the recordings of a survey, with the first that is refused
abbrev pub survey_text : Ledger → List ℕ
survey_text l =
    ledger_text (codes "recordings") (codes "refused") (codes "recording") l
    ++ first_line (codes "refused") (codes "recording") l.first_unjudged

-- how many recordings a survey of values has, and how many of them have an order or are impossible
abbrev pub values_counts : SurveyLedger → List ℕ
values_counts s =
    count_line (codes "recordings") s.ledger.total ++ count_line (codes "ordered") s.ledger.ordered
    ++ count_line (codes "impossible") (slice_index s.ledger.cycles.items 0)

-- how many of them are unfinished or unread
abbrev pub unjudged_counts : SurveyLedger → List ℕ
unjudged_counts s =
    count_line (codes "unfinished") s.unfinished.count ++ count_line (codes "unread") s.unread.count

-- the first of each kind but the orders
abbrev pub values_firsts : SurveyLedger → List ℕ
values_firsts s =
    first_line (codes "impossible") (codes "recording") s.ledger.first
    ++ first_line (codes "unfinished") (codes "recording") s.unfinished.first
    ++ first_line (codes "unread") (codes "recording") s.unread.first

-- that of a survey of values
abbrev pub values_survey_text : SurveyLedger → List ℕ
values_survey_text s = values_counts s ++ unjudged_counts s ++ values_firsts s

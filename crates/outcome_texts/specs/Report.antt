-- The report on what was observed: whether TSO allows each line of a log, and which outcomes no line shows.
use Rattle.std.specs.Prelude.{◌++◌, ◌∷◌, ℕ, Bool, true, false, not, List, [], codes, decimal, length}
use Rattle.std.specs.Prelude.{count_by, filter}
use Rattle.std.specs.List.{flat_map, list_any}
use Rattle.program.specs.Parts.{Parts}
use Rattle.outcomes.specs.Outcome.{Outcome}
use Rattle.outcomes.specs.Observed.{explains, shows_all}
use Rattle.outcome_texts.specs.declared.report.UnseenForm.{UnseenForm}
use Rattle.outcome_texts.specs.declared.report.UnseenForm.TheVariants.{Count, Lines}
use Rattle.outcome_texts.specs.Seen.{Seen}
use Rattle.outcome_texts.specs.OutcomeText.{outcome_text}

-- one of the outcomes has all that a line says
abbrev pub is_explained : List Outcome → Seen → Bool
is_explained os seen = explains os seen.items

-- a line says nothing but what an outcome has
abbrev pub is_shown : List Seen → Outcome → Bool
is_shown lines o = list_any (λ seen. shows_all o seen.items) lines

-- whether a line is allowed, its count and its items
abbrev pub verdict_word : Bool → List ℕ
verdict_word true = codes "allowed"
verdict_word false = codes "forbidden"

abbrev pub seen_line : List Outcome → Seen → List ℕ
seen_line os seen = verdict_word (is_explained os seen) ++ (seen.text ++ 10 ∷ [])

-- none of them has
abbrev pub is_forbidden : List Outcome → Seen → Bool
is_forbidden os seen = not (is_explained os seen)

-- how many lines are allowed, and how many are not
abbrev pub allowed_count : List Outcome → List Seen → ℕ
allowed_count os lines = count_by (is_explained os) lines

abbrev pub forbidden_count : List Outcome → List Seen → ℕ
forbidden_count os lines = count_by (is_forbidden os) lines

-- no line shows an outcome
abbrev pub is_unseen : List Seen → Outcome → Bool
is_unseen lines o = not (is_shown lines o)

-- the outcomes that no line shows
abbrev pub unseen : List Outcome → List Seen → List Outcome
unseen os lines = filter (is_unseen lines) os

-- a name and a number
abbrev pub total_line : List ℕ → ℕ → List ℕ
total_line name n = (name ++ decimal n) ++ 10 ∷ []

-- of the lines of outcomes that no line shows: what is printed of them
abbrev pub unseen_lines : UnseenForm → List ℕ → List ℕ
unseen_lines Count text = []
unseen_lines Lines text = text

-- a line for each of the log's, the totals, and the outcomes that no line shows where they are asked for
abbrev pub report_text : UnseenForm → Parts → List Outcome → List Seen → List ℕ
report_text form p os lines =
    flat_map (seen_line os) lines
    ++ (total_line (codes "allowed: ") (allowed_count os lines)
    ++ (total_line (codes "forbidden: ") (forbidden_count os lines)
    ++ (total_line (codes "unseen: ") (length (unseen os lines))
    ++ unseen_lines form (flat_map (outcome_text p) (unseen os lines)))))

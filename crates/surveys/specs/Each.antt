-- The text of what is found in each recording.
use Rattle.std.specs.Prelude.{◌+◌, ◌++◌, ◌∷◌, [], ℕ, List, Option, None, Some, codes, decimal}
use Rattle.recording.specs.declared.fault.RecError.{RecError}
use Rattle.ledger.specs.declared.finding.Finding.{Finding}
use Rattle.ledger.specs.declared.finding.Finding.TheVariants.{Ordered, Overlook, Cycle, Impossible, Unfinished, Refused}
use Rattle.verdicts.specs.Refusal.{recording_line}
use Rattle.verdicts.specs.VerdictText.{overlook_line}

-- the line of the length of a cycle
abbrev pub cycle_length_line : ℕ → List ℕ
cycle_length_line n = codes "cycle of " ++ decimal n ++ 10 ∷ []

-- a line, if there is one
abbrev pub line_or_none : Option (List ℕ) → List ℕ
line_or_none None = []
line_or_none (Some line) = line

-- the line of a refusal
abbrev pub recording_refusal_line : RecError → List ℕ
recording_refusal_line refusal = line_or_none (recording_line refusal)

-- the line of what is found
abbrev pub finding_line : Finding → List ℕ
finding_line Ordered = codes "ordered" ++ 10 ∷ []
finding_line (Overlook load store) = overlook_line load store
finding_line (Cycle n) = cycle_length_line n
finding_line Impossible = codes "impossible" ++ 10 ∷ []
finding_line Unfinished = codes "unfinished" ++ 10 ∷ []
finding_line (Refused refusal) = recording_refusal_line refusal

-- the number of a recording and what is found in it
abbrev pub each_line : ℕ → Finding → List ℕ
each_line number finding = decimal number ++ 32 ∷ finding_line finding

-- the lines of recordings, of which the first has this number
abbrev pub each_text : ℕ → List Finding → List ℕ
each_text first [] = []
each_text first (finding ∷ findings) = each_line first finding ++ each_text (first + 1) findings

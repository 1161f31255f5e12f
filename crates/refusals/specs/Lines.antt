-- The lines that are printed of refusals.
use Rattle.std.specs.Prelude.{◌++◌, ◌∷◌, [], ℕ, List, Option, Some, None, codes, decimal}
use Rattle.refusals.specs.declared.refusal.Refusal.{Refusal}

-- the line of a refusal without a number
abbrev pub refused : List ℕ → List ℕ
refused name = codes "refused: " ++ name ++ 10 ∷ []

-- the line of a refusal whose number counts this
abbrev pub numbered_line : List ℕ → List ℕ → ℕ → List ℕ
numbered_line name counts n = codes "refused: " ++ name ++ codes " " ++ counts ++ codes " " ++ decimal n ++ 10 ∷ []

-- the line of a refusal, with this number where its line has one
abbrev pub line_by : List ℕ → Option (List ℕ) → ℕ → List ℕ
line_by name None n = refused name
line_by name (Some counts) n = numbered_line name counts n

-- the line of a refusal with this number
abbrev pub refused_at : Refusal (List ℕ) → ℕ → List ℕ
refused_at r n = line_by r.name r.counts n

-- the line that is printed for line k of a text
abbrev pub refusal_line : List ℕ → ℕ → List ℕ
refusal_line name k = codes "refused: " ++ name ++ codes " line " ++ decimal k ++ 10 ∷ []

-- What a text has as far as it holds.
use Rattle.std.specs.Prelude.{◌≡◌, ◌<◌, ◌≤◌, ◌⊎◌, ◌-◌, ◌==◌, ◌++◌, ◌∷◌, [], ℕ, List, Bool, true, Option, Some}
use Rattle.std.specs.Prelude.{length, slice_index_or}
use Rattle.recording.specs.Execution.{Execution, event_count}
use Rattle.verdicts.specs.VerdictText.{labels_text}
use Rattle.verification.specs.declared.text_check.TextCheck.{TextCheck}
use Rattle.verification.specs.declared.text_check.TextCheck.TheVariants.{Holds, FailsAt, EndsEarly}
use Rattle.verification.specs.Faults.{IsCycleBegun, IsLineThatHolds, IsRowThatHolds, PairsLead, first_lines}
use Rattle.verification.specs.Spelled.{HasNoDigit, Spells, label_numbers}

-- a text is all that holds of the first lines of another
pub record IsMost (Hold : List ℕ → Type 0) (text part : List ℕ) : Type 0 where
  pub holds : Hold part
  pub most : (lines more : List ℕ) → text ≡ lines ++ more → Hold lines → (rest : List ℕ) × (part ≡ lines ++ rest)

-- no line, or that of an order or of an overlook
abbrev pub IsLineOrNone : Execution → List ℕ → Type 0
IsLineOrNone x text = (text ≡ []) ⊎ IsLineThatHolds x text

-- after the end of a line stand n lines of pairs of a cycle of this length, and more
pub record PairsStand (x : Execution) (size n : ℕ) (text lines more : List ℕ) : Type 0 where
  pub within : n ≤ size
  pub first : ℕ
  pub last : ℕ
  pub lead : PairsLead x first n lines last
  pub closes : n ≡ size → last ≡ first
  pub whole : text ≡ 10 ∷ (lines ++ more)

-- the lines of pairs that hold are added, and what is left after all of them begins with no digit
pub record ArePairsHeld (x : Execution) (size : ℕ) (text old new left : List ℕ) (all : Bool) : Type 0 where
  pub part : List ℕ
  pub added : new ≡ old ++ part
  pub count : ℕ
  pub within : count ≤ size
  pub first : ℕ
  pub last : ℕ
  pub lead : PairsLead x first count part last
  pub closes : count ≡ size → last ≡ first
  pub whole : all ≡ true → count ≡ size
  pub most : (n : ℕ) (lines more : List ℕ) → PairsStand x size n text lines more
      → (rest : List ℕ) × (part ≡ lines ++ rest)
  pub full : (lines more : List ℕ) → 0 < size → PairsStand x size size text lines more
      → (all ≡ true) × (part ≡ lines) × ((gap : List ℕ) × HasNoDigit gap × (left ≡ gap ++ more))

-- the lines of a cycle without labels that hold are added
pub record IsCycleHeld (x : Execution) (most : ℕ) (text old new left : List ℕ) (size : Option ℕ) : Type 0 where
  pub part : List ℕ
  pub added : new ≡ old ++ part
  pub holds : (part ≡ []) ⊎ ((k n : ℕ) × IsCycleBegun x most k n part)
  pub whole : (k : ℕ) → size ≡ Some k → IsCycleBegun x most k k part
  pub longest : (k n : ℕ) (lines more : List ℕ) → IsCycleBegun x most k n lines → text ≡ lines ++ more
      → (rest : List ℕ) × (part ≡ lines ++ rest)
  pub full : (k : ℕ) (lines more : List ℕ) → IsCycleBegun x most k k lines → text ≡ lines ++ more
      → (size ≡ Some k) × (part ≡ lines) × ((gap : List ℕ) × HasNoDigit gap × (left ≡ gap ++ more))

-- rows are all that hold of those that a text spells
pub record AreRowsHeld (x : Execution) (size : ℕ) (text : List ℕ) (rows : List (List ℕ)) : Type 0 where
  pub few : length rows ≤ event_count x
  pub hold : (v : ℕ) → v < length rows → IsRowThatHolds x size v (slice_index_or rows v [])
  pub most : (others : List (List ℕ)) (n : ℕ) → n ≤ event_count x
      → ((v : ℕ) → v < n → IsRowThatHolds x size v (slice_index_or others v []))
      → Spells (label_numbers others n) text
      → (rest : List ℕ) × (labels_text rows (length rows) ≡ labels_text others n ++ rest)

-- the lines of such rows are added
abbrev pub PutsRows : Execution → ℕ → List ℕ → List ℕ → List ℕ → Type 0
PutsRows x size text old new = (rows : List (List ℕ)) × AreRowsHeld x size text rows
    × (new ≡ old ++ labels_text rows (length rows))

-- whether a text ends with a line, where its beginning is one if `begins`
abbrev pub ends_line : Bool → List ℕ → Bool
ends_line begins [] = begins
ends_line begins (b ∷ bs) = ends_line (b == 10) bs

-- the first line of a text that is none of another: the lines before it are the first of the other, which does not
-- begin with them and it as a whole line; without one all lines are the first of the other
abbrev pub IsFirstDifference : List ℕ → List ℕ → TextCheck → Type 0
IsFirstDifference text other Holds = ⊥
IsFirstDifference text other (FailsAt n) = (0 < n) × (first_lines (n - 1) text ≡ first_lines (n - 1) other)
    × ((more : List ℕ) → other ≡ first_lines n text ++ more → ends_line true (first_lines n text) ≡ true → ⊥)
IsFirstDifference text other EndsEarly = (n : ℕ) × (text ≡ first_lines n other)

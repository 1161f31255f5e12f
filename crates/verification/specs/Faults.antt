-- Which line of a text is the first at fault.
use Rattle.std.specs.Prelude.{◌≡◌, ◌<◌, ◌≤◌, ◌⊎◌, ◌-◌, ◌==◌, ◌++◌, ◌∷◌, [], ℕ, zero, suc, List}
use Rattle.std.specs.Prelude.{codes, decimal, if◌then◌else◌, length, slice_index_or, ⊤}
use Rattle.recording.specs.Execution.{Execution, event_count}
use Rattle.relations.specs.Forced.{Forced}
use Rattle.relations.specs.Cycle.{IsLabelling}
use Rattle.verdicts.specs.VerdictText.{IsPairLine, labels_text}
use Rattle.long.specs.declared.answer.LongAnswer.{LongAnswer}
use Rattle.long.specs.declared.answer.LongAnswer.TheVariants.{Order, Overlook, Cycle}
use Rattle.verification.specs.Proof.{Are16Bit, IsLongProof}
use Rattle.verification.specs.declared.text_check.TextCheck.{TextCheck}
use Rattle.verification.specs.declared.text_check.TextCheck.TheVariants.{Holds, FailsAt, EndsEarly}

-- the first n lines of a text
abbrev pub first_lines : ℕ → List ℕ → List ℕ
first_lines zero text = []
first_lines (suc n) [] = []
first_lines (suc n) (b ∷ bs) = b ∷ (if b == 10 then first_lines n bs else first_lines (suc n) bs)

-- the text of an order or of an overlook is one line
abbrev pub IsOneLine : LongAnswer → Type 0
IsOneLine (Order m) = ⊤
IsOneLine (Overlook l s) = ⊤
IsOneLine (Cycle c) = ⊥

-- the line of an order or of an overlook, which the execution has
pub record IsLineThatHolds (x : Execution) (line : List ℕ) : Type 0 where
  pub proof : IsLongProof x line
  pub one : IsOneLine proof.answer

-- n lines of forced pairs with their first reasons lead from e to f: each pair begins where the one before ends
abbrev pub PairsLead : Execution → ℕ → ℕ → List ℕ → ℕ → Type 0
PairsLead x e zero lines f = (lines ≡ []) × (e ≡ f)
PairsLead x e (suc n) lines f = (g : ℕ) × (before line : List ℕ) × PairsLead x e n before g
    × IsPairLine x g f line × (lines ≡ before ++ line)

-- the length of a cycle of at most so many events, and the lines of its first n pairs, which lead back to where they
-- begin if they are all
pub record IsCycleBegun (x : Execution) (most size n : ℕ) (text : List ℕ) : Type 0 where
  pub some : 0 < size
  pub few : size ≤ most
  pub within : n ≤ size
  pub first : ℕ
  pub last : ℕ
  pub pairs : List ℕ
  pub lead : PairsLead x first n pairs last
  pub closes : n ≡ size → last ≡ first
  pub whole : text ≡ codes "cycle of " ++ decimal size ++ 10 ∷ pairs

-- labels of 16 bits by which no cycle through event v has fewer than this many events
abbrev pub IsRowThatHolds : Execution → ℕ → ℕ → List ℕ → Type 0
IsRowThatHolds x size v row = Are16Bit row × IsLabelling (Forced x) size (event_count x) v row

-- the length and all pairs of a cycle, and n rows of labels
pub record AreLabelsBegun (x : Execution) (size n : ℕ) (text : List ℕ) : Type 0 where
  pub front : List ℕ
  pub pairs : IsCycleBegun x (event_count x) size size front
  pub few : n ≤ event_count x
  pub rows : List (List ℕ)
  pub hold : (v : ℕ) → v < n → IsRowThatHolds x size v (slice_index_or rows v [])
  pub whole : text ≡ front ++ labels_text rows n

-- lines that hold: none, that of an order or of an overlook, or the first of a cycle of at most so many events
abbrev pub LongLinesHold : Execution → ℕ → List ℕ → Type 0
LongLinesHold x most text = (text ≡ []) ⊎ (IsLineThatHolds x text ⊎ ((size n : ℕ) × IsCycleBegun x most size n text))

-- or the pairs of a cycle and its first labels
abbrev pub LinesHold : Execution → List ℕ → Type 0
LinesHold x text = LongLinesHold x (event_count x) text ⊎ ((size n : ℕ) × AreLabelsBegun x size n text)

-- the most events of a cycle that a text may name without labels: one for each byte after its first words
abbrev pub longest_cycle : List ℕ → ℕ
longest_cycle text = length text - 9

-- which line is at fault: the lines before it hold, and with it they do not; without one all lines hold
abbrev pub NamesFault : (List ℕ → Type 0) → List ℕ → TextCheck → Type 0
NamesFault Hold text Holds = ⊤
NamesFault Hold text (FailsAt n) = (0 < n) × Hold (first_lines (n - 1) text) × ¬ Hold (first_lines n text)
NamesFault Hold text EndsEarly = Hold text

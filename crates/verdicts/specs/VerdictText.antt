-- The texts of verdicts.
use Rattle.std.specs.Prelude.{◌≡◌, ◌++◌, ◌∷◌, [], ℕ, zero, suc, List, Some, codes, decimal, length}
use Rattle.std.specs.Prelude.{slice_index, slice_index_or}
use Rattle.recording.specs.Execution.{Execution}
use Rattle.relations.specs.declared.reason.Reason.{Reason}
use Rattle.relations.specs.declared.reason.Reason.TheVariants.{Po, Wo, Rf, Fr}
use Rattle.relations.specs.Forced.{IsReason}
use Rattle.relations.specs.Cycle.{next_in_cycle}
use Rattle.labels.specs.Certified.{lists_of}
use Rattle.texts.specs.Numbers.{numbers_text}
use Rattle.verdicts.specs.declared.verdict.Verdict.{Verdict}
use Rattle.verdicts.specs.declared.verdict.Verdict.TheVariants.{Ordered, Overlook, Cycle}

-- the line of an order
abbrev pub order_line : List ℕ → List ℕ
order_line order = codes "ordered:" ++ numbers_text order ++ 10 ∷ []

-- the line of an overlook
abbrev pub overlook_line : ℕ → ℕ → List ℕ
overlook_line load store = codes "overlook: load " ++ decimal load ++ codes " store " ++ decimal store
    ++ 10 ∷ []

-- what is printed of a reason
abbrev pub reason_name : Reason → List ℕ
reason_name Po = codes "Po"
reason_name Wo = codes "Wo"
reason_name Rf = codes "Rf"
reason_name Fr = codes "Fr"

-- the line of a pair with a reason
abbrev pub pair_line : ℕ → ℕ → Reason → List ℕ
pair_line e f reason = decimal e ++ codes " -> " ++ decimal f ++ 32 ∷ (reason_name reason ++ 10 ∷ [])

-- the line of a pair with the first reason that holds
pub record IsPairLine (x : Execution) (e f : ℕ) (line : List ℕ) : Type 0 where
  pub reason : Reason
  pub first : IsReason x e f (Some reason)
  pub text : line ≡ pair_line e f reason

-- the lines of the first n events of a cycle, each with the event after it
abbrev pub ArePairLines : Execution → List ℕ → ℕ → List ℕ → Type 0
ArePairLines x c zero lines = lines ≡ []
ArePairLines x c (suc i) lines = (before line : List ℕ) × ArePairLines x c i before
    × IsPairLine x (slice_index c i) (next_in_cycle c i) line × (lines ≡ before ++ line)

-- the line of the labels from an event
abbrev pub labels_line : ℕ → List ℕ → List ℕ
labels_line v row = codes "labels " ++ decimal v ++ codes ":" ++ numbers_text row ++ 10 ∷ []

-- the lines of the first n rows
abbrev pub labels_text : List (List ℕ) → ℕ → List ℕ
labels_text rows zero = []
labels_text rows (suc v) = labels_text rows v ++ labels_line v (slice_index_or rows v [])

-- the length of a cycle, its pairs of neighbours with their first reasons, and the rows of labels
pub record IsCycleText (x : Execution) (c : List ℕ) (rows : List (List ℕ)) (text : List ℕ) : Type 0 where
  pub pairs : List ℕ
  pub lines : ArePairLines x c (length c) pairs
  pub whole : text ≡ codes "cycle of " ++ decimal (length c) ++ 10 ∷ (pairs ++ labels_text rows (length rows))

-- the text of a verdict on an execution
abbrev pub IsVerdictText : Execution → Verdict → List ℕ → Type 0
IsVerdictText x (Ordered m) text = text ≡ order_line m.items
IsVerdictText x (Overlook l s) text = text ≡ overlook_line l s
IsVerdictText x (Cycle c) text = IsCycleText x c.cycle.items (lists_of c.rows.items) text

-- The texts of answers.
use Rattle.std.specs.Prelude.{◌≡◌, ◌++◌, ◌∷◌, ℕ, List, codes, decimal, length}
use Rattle.recording.specs.Execution.{Execution}
use Rattle.verdicts.specs.declared.outcome.Outcome.{Outcome}
use Rattle.verdicts.specs.declared.outcome.Outcome.TheVariants.{Ordered, Violation}
use Rattle.verdicts.specs.VerdictText.{ArePairLines, order_line, overlook_line}
use Rattle.long.specs.declared.answer.LongAnswer.{LongAnswer}
use Rattle.long.specs.declared.answer.LongAnswer.TheVariants.{Order, Overlook, Cycle}

-- the length of a cycle, and its pairs of neighbours with their first reasons
pub record ArePairs (x : Execution) (c text : List ℕ) : Type 0 where
  pub pairs : List ℕ
  pub lines : ArePairLines x c (length c) pairs
  pub whole : text ≡ codes "cycle of " ++ decimal (length c) ++ 10 ∷ pairs

-- the text of an answer
abbrev pub IsLongText : Execution → LongAnswer → List ℕ → Type 0
IsLongText x (Order m) text = text ≡ order_line m.items
IsLongText x (Overlook l s) text = text ≡ overlook_line l s
IsLongText x (Cycle c) text = ArePairs x c.items text

-- only an order is no violation
abbrev pub long_outcome : LongAnswer → Outcome
long_outcome (Order m) = Ordered
long_outcome (Overlook l s) = Violation
long_outcome (Cycle c) = Violation

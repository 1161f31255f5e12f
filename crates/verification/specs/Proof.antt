-- What a text has to be, that it holds of an execution.
use Rattle.std.specs.Prelude.{◌≡◌, ◌<◌, ◌≤◌, ◌^◌, ℕ, List, [], length, slice_index_or, All, ⊤}
use Rattle.common.specs.declared.limits.TheConstants.{MAX_EVENTS}
use Rattle.recording.specs.Execution.{Execution, event_count}
use Rattle.recording.specs.Recording.{IsRecording}
use Rattle.labels.specs.Certified.{lists_of}
use Rattle.verdicts.specs.declared.verdict.Verdict.{Verdict}
use Rattle.verdicts.specs.declared.verdict.Verdict.TheVariants.{Ordered, Overlook, Cycle}
use Rattle.verdicts.specs.Judgement.{IsVerdict}
use Rattle.verdicts.specs.Verified.{Verifies}
use Rattle.verdicts.specs.VerdictText.{IsVerdictText}
use Rattle.long.specs.declared.answer.LongAnswer.{LongAnswer}
use Rattle.long.specs.Answer.{IsLongAnswer, IsWitness}
use Rattle.long.specs.Texts.{IsLongText}

-- labels of 16 bits
abbrev pub Are16Bit : List ℕ → Type 0
Are16Bit labels = All (λ n. n < 2 ^ 16) labels

-- this many labels of 16 bits
pub record IsRow (count : ℕ) (labels : List ℕ) : Type 0 where
  pub size : length labels ≡ count
  pub short : Are16Bit labels

-- this many rows of this many numbers
pub record AreRows (count : ℕ) (rows : List (List ℕ)) : Type 0 where
  pub size : length rows ≡ count
  pub rows_are : (v : ℕ) → v < count → IsRow count (slice_index_or rows v [])

-- the labels of each row have 16 bits
abbrev pub AreShort : List (List ℕ) → Type 0
AreShort rows = (v : ℕ) → Are16Bit (slice_index_or rows v [])

-- the labels of a verdict have 16 bits
abbrev pub HasShortLabels : Verdict → Type 0
HasShortLabels (Ordered m) = ⊤
HasShortLabels (Overlook l s) = ⊤
HasShortLabels (Cycle c) = AreShort (lists_of c.rows.items)

-- the text of a verdict that passes its check
pub record IsProof (x : Execution) (text : List ℕ) : Type 0 where
  pub verdict : Verdict
  pub printed : IsVerdictText x verdict text
  pub verified : Verifies x verdict
  pub short : HasShortLabels verdict

-- the text of an order, an overlook or a cycle without labels, which the execution has
pub record IsLongProof (x : Execution) (text : List ℕ) : Type 0 where
  pub answer : LongAnswer
  pub printed : IsLongText x answer text
  pub witness : IsWitness x answer

-- the text of the verdict on an execution
pub record IsTextOfVerdict (x : Execution) (text : List ℕ) : Type 0 where
  pub verdict : Verdict
  pub printed : IsVerdictText x verdict text
  pub found : IsVerdict x verdict

-- the text of the verdict on a recording that has labels is a proof
abbrev pub EveryVerdictHolds : Type 0
EveryVerdictHolds = (x : Execution) (text : List ℕ) → IsRecording x → event_count x ≤ MAX_EVENTS
    → IsTextOfVerdict x text → IsProof x text

-- the text of the answer to an execution as a long recording
pub record IsTextOfAnswer (x : Execution) (text : List ℕ) : Type 0 where
  pub answer : LongAnswer
  pub printed : IsLongText x answer text
  pub found : IsLongAnswer x answer

-- the text of the answer to an execution is a proof
abbrev pub EveryAnswerHolds : Type 0
EveryAnswerHolds = (x : Execution) (text : List ℕ) → IsTextOfAnswer x text → IsLongProof x text

-- What is found in lines.
use Rattle.std.specs.Prelude.{◌≡◌, ◌≢◌, ◌⊎◌, ℕ, List, Result, Ok, Err, length, map}
use Rattle.std.specs.List.{AllZip}
use Rattle.recording.specs.Execution.{Execution}
use Rattle.recording.specs.declared.fault.RecError.{RecError}
use Rattle.recording.specs.declared.fault.RecError.TheVariants.{OutOfMemory}
use Rattle.recording.specs.declared.size.RecordingSize.TheVariants.{Long}
use Rattle.recorder.specs.Reading.{IsReadingOf, IsReadingResult}
use Rattle.verdicts.specs.declared.verdict.Verdict.{Verdict}
use Rattle.verdicts.specs.Judgement.{IsVerdict}
use Rattle.long.specs.declared.answer.LongAnswer.{LongAnswer}
use Rattle.long.specs.declared.answer.LongAnswer.TheVariants as answers
use Rattle.long.specs.Answer.{IsLongAnswer}
use Rattle.ledger.specs.declared.finding.Finding.{Finding}
use Rattle.ledger.specs.declared.finding.Finding.TheVariants.{Ordered, Overlook, Cycle, Impossible, Unfinished, Refused}
use Rattle.ledger.specs.Findings.{finding_code, finding_of}
use Rattle.values.specs.Values.{AreAllowed, Values}
use Rattle.values_text.specs.Reading.{IsValuesReading}
use Rattle.completion.specs.Reachable.{HasMore}
use Rattle.surveys.specs.declared.kind.LineKind.{LineKind}
use Rattle.surveys.specs.declared.kind.LineKind.TheVariants as kinds
use Rattle.surveys.specs.Lines.{IsCut, lines}

-- the verdict on the recording that the bytes give
pub record IsJudged (bytes : List ℕ) (verdict : Verdict) : Type 0 where
  pub recording : Execution
  pub read : IsReadingResult bytes (Ok recording)
  pub found : IsVerdict recording verdict

-- the refusal that the bytes have; none where memory ran out
pub record IsRefused (bytes : List ℕ) (refusal : RecError) : Type 0 where
  pub read : IsReadingResult bytes (Err refusal)
  pub known : refusal ≢ OutOfMemory

-- what the bytes of a line give: a verdict, or a refusal
abbrev pub IsLineResult : List ℕ → Result Verdict RecError → Type 0
IsLineResult bytes (Ok verdict) = IsJudged bytes verdict
IsLineResult bytes (Err refusal) = IsRefused bytes refusal

-- what it finds
abbrev pub given_finding : Result Verdict RecError → Finding
given_finding (Ok verdict) = finding_of verdict
given_finding (Err refusal) = Refused refusal

-- what is found in the bytes of a line that is a recording
pub record IsRecordingFinding (bytes : List ℕ) (finding : Finding) : Type 0 where
  pub given : Result Verdict RecError
  pub is_given : IsLineResult bytes given
  pub finds : finding ≡ given_finding given

-- what an answer to a recording of any length finds
abbrev pub long_finding : LongAnswer → Finding
long_finding (answers.Order order) = Ordered
long_finding (answers.Overlook load store) = Overlook load store
long_finding (answers.Cycle cycle) = Cycle (length cycle.items)

-- the bytes give a recording within the large limits, and this is found of an answer to it
pub record IsLongFound (bytes : List ℕ) (finding : Finding) : Type 0 where
  pub recording : Execution
  pub answer : LongAnswer
  pub read : IsReadingOf Long bytes (Ok recording)
  pub found : IsLongAnswer recording answer
  pub finds : finding ≡ long_finding answer

-- the bytes give none, and this refusal is found; it is not that memory ran out
pub record IsNoLongRecording (bytes : List ℕ) (finding : Finding) : Type 0 where
  pub refusal : RecError
  pub read : IsReadingOf Long bytes (Err refusal)
  pub known : refusal ≢ OutOfMemory
  pub finds : finding ≡ Refused refusal

-- what is found of values: that TSO allows them, or that it does not; or that moves lead to more states than this
abbrev pub IsValuesFound : Values → ℕ → Finding → Type 0
IsValuesFound v states Ordered = AreAllowed v
IsValuesFound v states Impossible = ¬ AreAllowed v
IsValuesFound v states Unfinished = HasMore v states
IsValuesFound v states other = ⊥

-- the bytes give values, of which this is found where no more states are seen
pub record AreCompleted (bytes : List ℕ) (states : ℕ) (finding : Finding) : Type 0 where
  pub values : Values
  pub read : IsValuesReading bytes (Ok values)
  pub found : IsValuesFound values states finding

-- the bytes give none, and this refusal is found; it is not that memory ran out
pub record AreNoValues (bytes : List ℕ) (finding : Finding) : Type 0 where
  pub refusal : RecError
  pub read : IsValuesReading bytes (Err refusal)
  pub known : refusal ≢ OutOfMemory
  pub finds : finding ≡ Refused refusal

-- what is found in the bytes of a line of this kind
abbrev pub IsLineFinding : LineKind → List ℕ → Finding → Type 0
IsLineFinding kinds.Recording bytes finding = IsRecordingFinding bytes finding
IsLineFinding kinds.LongRecording bytes finding = IsLongFound bytes finding ⊎ IsNoLongRecording bytes finding
IsLineFinding (kinds.Values states) bytes finding = AreCompleted bytes states finding ⊎ AreNoValues bytes finding

-- what is found in lines, in order
abbrev pub AreFindings : LineKind → List (List ℕ) → List Finding → Type 0
AreFindings kind lines findings = AllZip (IsLineFinding kind) lines findings

-- in all lines of the bytes
abbrev pub AreLineFindings : LineKind → List ℕ → List Finding → Type 0
AreLineFindings kind bytes findings = AreFindings kind (lines bytes) findings

-- in all lines of the bytes but those of the rest
abbrev pub AreFindingsUpTo : LineKind → List ℕ → List ℕ → List Finding → Type 0
AreFindingsUpTo kind bytes rest findings = (front : List (List ℕ)) × IsCut bytes front rest
    × AreFindings kind front findings

-- its codes
abbrev pub codes_of : List Finding → List ℕ
codes_of findings = map finding_code findings

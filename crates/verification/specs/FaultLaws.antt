-- What is known of the line at fault.
use Rattle.std.specs.Prelude.{◌≡◌, ◌≢◌, ◌<◌, ◌≤◌, ◌^◌, ℕ, List, length}
use Rattle.common.specs.declared.limits.TheConstants.{MAX_EVENTS}
use Rattle.recording.specs.Execution.{Execution, event_count}
use Rattle.recording.specs.Recording.{IsRecording}
use Rattle.verification.specs.Faults.{LinesHold, LongLinesHold, NamesFault, first_lines, longest_cycle}
use Rattle.verification.specs.Proof.{IsLongProof, IsProof}
use Rattle.verification.specs.declared.text_check.TextCheck.{TextCheck}
use Rattle.verification.specs.declared.text_check.TextCheck.TheVariants.{Holds}

-- the first lines of a proof hold, and so no proof begins with whole lines of which the last is at fault
pub record ProofLinesHold : Type 0 where
  pub labelled : (x : Execution) (text : List ℕ) → IsRecording x → event_count x ≤ MAX_EVENTS → IsProof x text
      → (n : ℕ) → LinesHold x (first_lines n text)
  pub unlabelled : (x : Execution) (text : List ℕ) → IsRecording x → length text < 2 ^ 64 → IsLongProof x text
      → (n : ℕ) → LongLinesHold x (longest_cycle text) (first_lines n text)

-- what is found of a text that is no proof names one line, or that none is at fault
pub record FaultIsOne : Type 0 where
  pub labelled : (x : Execution) (text : List ℕ) (f g : TextCheck) → IsRecording x
      → NamesFault (LinesHold x) text f → NamesFault (LinesHold x) text g → f ≢ Holds → g ≢ Holds → f ≡ g
  pub unlabelled : (x : Execution) (text : List ℕ) (f g : TextCheck) → IsRecording x → length text < 2 ^ 64
      → NamesFault (LongLinesHold x (longest_cycle text)) text f
      → NamesFault (LongLinesHold x (longest_cycle text)) text g → f ≢ Holds → g ≢ Holds → f ≡ g

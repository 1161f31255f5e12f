-- What is answered to the bytes of a recording.
use Rattle.std.specs.Prelude.{◌≢◌, ℕ, List, Ok}
use Rattle.recording.specs.Execution.{Execution}
use Rattle.recorder.specs.Reading.{IsReadingResult}
use Rattle.verdicts.specs.declared.outcome.Outcome.TheVariants.{Refused}
use Rattle.verdicts.specs.declared.printed.Answer.{Answer}
use Rattle.text_judge.specs.Answer.{IsAnswerOf}
use Rattle.verification.specs.Proof.{IsProof}

-- the answer to the bytes; unless it refuses them, its text holds of the recording that they are
pub record IsJudgedOf (bytes : List ℕ) (answer : Answer) : Type 0 where
  pub answered : IsAnswerOf bytes answer
  pub holds : answer.outcome ≢ Refused → (x : Execution) × IsReadingResult bytes (Ok x)
      × IsProof x answer.text.items

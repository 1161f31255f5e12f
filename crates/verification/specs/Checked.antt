-- What is answered to a text that is to hold of a recording.
use Rattle.std.specs.Prelude.{◌≡◌, ◌++◌, ◌∷◌, [], ℕ, List, codes, decimal}
use Rattle.verdicts.specs.declared.outcome.Outcome.{Outcome}
use Rattle.verdicts.specs.declared.outcome.Outcome.TheVariants.{Done, Violation}
use Rattle.verdicts.specs.declared.printed.Answer.{Answer}
use Rattle.verification.specs.declared.text_check.TextCheck.{TextCheck}
use Rattle.verification.specs.declared.text_check.TextCheck.TheVariants.{Holds, FailsAt, EndsEarly}
use Rattle.verification.specs.Faults.{NamesFault}

-- a text holds exactly where it is such a proof
pub record IsCheckAnswer (IsSuchProof : Type 0) (answer : Answer) : Type 0 where
  pub holds : IsSuchProof → (answer.outcome ≡ Done) × (answer.text.items ≡ codes "holds" ++ 10 ∷ [])
  pub fails : (IsSuchProof → ⊥) → (answer.outcome ≡ Violation)
      × ((rest : List ℕ) × (answer.text.items ≡ codes "does not hold" ++ rest))

-- the outcome of what is found of a text
abbrev pub check_outcome : TextCheck → Outcome
check_outcome Holds = Done
check_outcome (FailsAt n) = Violation
check_outcome EndsEarly = Violation

-- and what is printed
abbrev pub check_line : TextCheck → List ℕ
check_line Holds = codes "holds" ++ 10 ∷ []
check_line (FailsAt n) = codes "does not hold: line " ++ (decimal n ++ 10 ∷ [])
check_line EndsEarly = codes "does not hold" ++ 10 ∷ []

-- the answer to what is found of a text
pub record AnswersCheck (check : TextCheck) (answer : Answer) : Type 0 where
  pub outcome : answer.outcome ≡ check_outcome check
  pub printed : answer.text.items ≡ check_line check

-- the answer names the line of a text that is at fault
abbrev pub AnswersLine : (List ℕ → Type 0) → List ℕ → Answer → Type 0
AnswersLine Hold text answer = (check : TextCheck) × NamesFault Hold text check × AnswersCheck check answer

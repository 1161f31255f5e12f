-- What is answered of the outcomes of a program.
use Rattle.std.specs.Prelude.{◌≡◌, ◌⊎◌, ◌==◌, ◌∷◌, ◌++◌, [], ℕ, Bool, not, if◌then◌else◌, List, codes}
use Rattle.program.specs.Parts.{Parts}
use Rattle.outcomes.specs.declared.observed.Observation.{Observation}
use Rattle.outcomes.specs.Listed.{AreListed}
use Rattle.outcomes.specs.Observed.{explains}
use Rattle.outcomes.specs.Outcome.{Outcome}
use Rattle.outcomes.specs.Reachable.{HasMore}
use Rattle.outcome_texts.specs.OutcomeText.{outcomes_text}
use Rattle.verdicts.specs.declared.printed.Answer.{Answer}
use Rattle.verdicts.specs.declared.outcome.Outcome.{Outcome as HowItComesOut}
use Rattle.verdicts.specs.declared.outcome.Outcome.TheVariants.{Done, Unfinished, Violation}
use Rattle.program_answers.specs.declared.outcome_answers.Condition.{Condition}
use Rattle.program_answers.specs.declared.outcome_answers.Condition.TheVariants.{Exists, Never}
use Rattle.program_answers.specs.declared.outcome_answers.Reply.{Reply}
use Rattle.program_answers.specs.declared.outcome_answers.Reply.TheVariants.{Yes, No}

-- an answer of this text, which comes out so
pub record IsText (outcome : HowItComesOut) (text : List ℕ) (answer : Answer) : Type 0 where
  pub outcome_is : answer.outcome ≡ outcome
  pub text_is : answer.text.items ≡ text

-- moves lead to more states than may be seen, and nothing is said but that
pub record IsUnfinished (p : Parts) (states : ℕ) (answer : Answer) : Type 0 where
  pub more : HasMore p states
  pub said : IsText Unfinished (codes "unfinished" ++ 10 ∷ []) answer

-- an answer by all outcomes of a program, or that there are more states than may be seen
abbrev pub IsByOutcomes : Parts → ℕ → (List Outcome → Answer → Type 0) → Answer → Type 0
IsByOutcomes p states Is answer =
    ((os : List Outcome) × AreListed p os × Is os answer) ⊎ IsUnfinished p states answer

-- the list of the outcomes
abbrev pub IsOutcomesAnswer : Parts → ℕ → Answer → Type 0
IsOutcomesAnswer p states answer = IsByOutcomes p states (λ os. IsText Done (outcomes_text p os)) answer

-- a violation where a line of a log is forbidden
abbrev pub log_outcome : ℕ → HowItComesOut
log_outcome forbidden = if forbidden == 0 then Done else Violation

-- the condition holds of these outcomes: one has all items, or none has
abbrev pub is_met : Condition → List Outcome → List Observation → Bool
is_met Exists os seen = explains os seen
is_met Never os seen = not (explains os seen)

-- so it is printed
abbrev pub reply_to : Condition → List Outcome → List Observation → Reply
reply_to condition os seen = if is_met condition os seen then Yes else No

abbrev pub condition_outcome : Reply → HowItComesOut
condition_outcome Yes = Done
condition_outcome No = Violation

abbrev pub condition_text : Reply → List ℕ
condition_text Yes = codes "Yes" ++ 10 ∷ []
condition_text No = codes "No" ++ 10 ∷ []

-- whether a condition holds
abbrev pub IsConditionAnswer : Parts → ℕ → Condition → List Observation → Answer → Type 0
IsConditionAnswer p states condition seen answer = IsByOutcomes p states
    (λ os. IsText (condition_outcome (reply_to condition os seen)) (condition_text (reply_to condition os seen))) answer

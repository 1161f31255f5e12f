-- What is answered of the values of a run.
use Rattle.std.specs.Prelude.{◌≡◌, ◌⊎◌, ◌++◌, ◌∷◌, [], ℕ, List, codes}
use Rattle.recording.specs.Execution.{Execution}
use Rattle.recorder.specs.Text.{recording_text}
use Rattle.values.specs.Values.{AreAllowed, IsCompletion, Values}
use Rattle.completion.specs.declared.cause.Link.{Link}
use Rattle.completion.specs.Circle.{IsCircle}
use Rattle.completion.specs.Left.{HasNoPart}
use Rattle.completion.specs.Reachable.{HasMore}
use Rattle.verdicts.specs.declared.printed.Answer.{Answer}
use Rattle.verdicts.specs.declared.outcome.Outcome.TheVariants.{Ordered, Unfinished, Violation}
use Rattle.program_answers.specs.Circles.{circle_text}
use Rattle.program_answers.specs.Outcomes.{IsText}
use Rattle.program_answers.specs.Part.{ShowsPart}

-- a recording that completes the values, and which TSO allows
pub record IsCompleted (v : Values) (answer : Answer) : Type 0 where
  pub recording : Execution
  pub order : List ℕ
  pub completes : IsCompletion v recording order
  pub said : IsText Ordered (recording_text recording) answer

-- a part of the values is shown, if one is found
abbrev pub MayShowPart : Values → ℕ → List ℕ → Type 0
MayShowPart v states shown = ((shown ≡ []) × HasNoPart v states) ⊎ ShowsPart v shown

-- TSO does not allow the values; a circle may be shown, and a part of them, if one is found
pub record IsImpossible (v : Values) (states : ℕ) (answer : Answer) : Type 0 where
  pub refuted : ¬ AreAllowed v
  pub circle : List Link
  pub shows : (circle ≡ []) ⊎ IsCircle v circle
  pub shown : List ℕ
  pub part : MayShowPart v states shown
  pub said : IsText Violation ((codes "impossible" ++ 10 ∷ circle_text circle) ++ shown) answer

-- moves lead to more states than may be seen, and nothing is said but that
pub record IsUncompleted (v : Values) (states : ℕ) (answer : Answer) : Type 0 where
  pub more : HasMore v states
  pub said : IsText Unfinished (codes "unfinished" ++ 10 ∷ []) answer

-- a recording that completes the values, or that there is none, or that there are more states than may be seen
abbrev pub IsCompletionAnswer : Values → ℕ → Answer → Type 0
IsCompletionAnswer v states answer = IsCompleted v answer ⊎ IsImpossible v states answer ⊎ IsUncompleted v states answer

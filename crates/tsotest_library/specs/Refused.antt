-- Why a number of states, or the text of a program, is refused.
use Rattle.std.specs.Prelude.{◌≡◌, ◌⊎◌, ◌++◌, ◌∷◌, [], ℕ, List, true, Ok, Err, codes}
use Rattle.litmus.specs.declared.line_refusal.LineRefusal.{LineRefusal}
use Rattle.litmus.specs.Refusals.{line_refusal_name, refusal_line}
use Rattle.program.specs.Parts.{Parts}
use Rattle.program.specs.Shapes.{is_outside}
use Rattle.litmus.specs.Text.{reading}
use Rattle.recording.specs.Execution.{Execution}
use Rattle.program_events.specs.ProgramOf.{IsProgramOf}
use Rattle.verdicts.specs.declared.outcome.Outcome.TheVariants.{Refused}
use Rattle.verdicts.specs.declared.printed.Answer.{Answer}

-- the number of states is refused
pub record AreStatesRefused (states : ℕ) (answer : Answer) : Type 0 where
  pub outside : is_outside 4294967295 states ≡ true
  pub outcome : answer.outcome ≡ Refused
  pub printed : answer.text.items ≡ codes "refused: K12" ++ 10 ∷ []

-- the first line of the text at fault
pub record IsLineRefused (text : List ℕ) (answer : Answer) : Type 0 where
  pub refusal : LineRefusal
  pub line : ℕ
  pub read : reading text ≡ Err (refusal, line)
  pub outcome : answer.outcome ≡ Refused
  pub printed : answer.text.items ≡ refusal_line (line_refusal_name refusal) line

-- the text is that of a program, and the recording is none of it
pub record IsOtherProgram (x : Execution) (text : List ℕ) (answer : Answer) : Type 0 where
  pub program : Parts
  pub read : reading text ≡ Ok program
  pub other : ¬ IsProgramOf program x
  pub outcome : answer.outcome ≡ Refused
  pub printed : answer.text.items ≡ codes "refused: N9" ++ 10 ∷ []

-- the text is refused, by itself or for the recording
abbrev pub IsTextRefused : Execution → List ℕ → Answer → Type 0
IsTextRefused x text answer = IsLineRefused text answer ⊎ IsOtherProgram x text answer

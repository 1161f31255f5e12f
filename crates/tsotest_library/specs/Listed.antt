-- What is answered of the outcomes of a program, by its text.
use Rattle.std.specs.Prelude.{◌≡◌, ◌⊎◌, ℕ, List, Ok}
use Rattle.program.specs.Parts.{Parts}
use Rattle.litmus.specs.Text.{reading}
use Rattle.verdicts.specs.declared.printed.Answer.{Answer}
use Rattle.program_answers.specs.Outcomes.{IsOutcomesAnswer}
use Rattle.tsotest_library.specs.Refused.{AreStatesRefused, IsLineRefused}

-- the outcomes of the program of a text
pub record IsListedText (text : List ℕ) (states : ℕ) (answer : Answer) : Type 0 where
  pub program : Parts
  pub read : reading text ≡ Ok program
  pub answered : IsOutcomesAnswer program states answer

-- the outcomes of the program of a text, or that the number or the text is refused
abbrev pub IsListedOf : List ℕ → ℕ → Answer → Type 0
IsListedOf text states answer =
    AreStatesRefused states answer ⊎ (IsListedText text states answer ⊎ IsLineRefused text answer)

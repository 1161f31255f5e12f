-- What is printed of a part of values that TSO does not allow.
use Rattle.std.specs.Prelude.{◌≡◌, ◌++◌, ◌∷◌, [], ℕ, List, Option, None, Some, IfSome, codes}
use Rattle.recording.specs.Execution.{Execution}
use Rattle.recorder.specs.Text.{recording_text}
use Rattle.completion.specs.declared.part.Part.{Part}
use Rattle.completion.specs.Only.{HasValues, IsOnlyRecording, LeaveNoChoice}
use Rattle.completion.specs.Part.{IsPart}
use Rattle.texts.specs.Numbers.{numbers_text}
use Rattle.values.specs.Values.{Values}
use Rattle.values_text.specs.Text.{text_of_values}

-- an empty line and the line of a recording, where there is one
abbrev pub only_text : Option Execution → List ℕ
only_text None = []
only_text (Some x) = 10 ∷ recording_text x

-- an empty line, the line of the numbers of a part's events, the line of its values, and a recording of these
abbrev pub part_text : Part → Option Execution → List ℕ
part_text p x = 10 ∷ codes "events:" ++ numbers_text p.events.items ++ 10 ∷ text_of_values p.values ++ only_text x

-- a part of the values of which each event is needed, and the only recording of it: where none is shown, the part
-- leaves a choice, or has no recording
pub record ShowsPart (v : Values) (text : List ℕ) : Type 0 where
  pub part : Part
  pub needed : IsPart v part
  pub recording : Option Execution
  pub only : IfSome recording (λ x. IsOnlyRecording part.values x)
  pub none : recording ≡ None → LeaveNoChoice part.values → (x : Execution) → ¬ HasValues part.values x
  pub text_is : text ≡ part_text part recording

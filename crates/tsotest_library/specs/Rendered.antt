-- Renderings of a recording, by the text of its program.
use Rattle.std.specs.Prelude.{◌≡◌, ◌≢◌, ◌⊎◌, [], ℕ, List, Option, None, Some, Result, Ok, Err}
use Rattle.program.specs.Parts.{Parts}
use Rattle.program.specs.declared.program.Program.{Program}
use Rattle.litmus.specs.Text.{reading}
use Rattle.recording.specs.Execution.{Execution}
use Rattle.recording.specs.declared.size.RecordingSize.TheVariants.{Long}
use Rattle.recorder.specs.Reading.{IsReadingOf, IsReadingResult}
use Rattle.program_events.specs.ProgramOf.{IsProgramOf}
use Rattle.verdicts.specs.declared.printed.Answer.{Answer}
use Rattle.text_judge.specs.Answer.{IsRefusedAnswer, IsRefusedOf}
use Rattle.answers.specs.declared.rendering.Rendering.{Rendering}
use Rattle.answers.specs.Rendered.{IsLongRenderedAnswer, IsRenderedAnswer}
use Rattle.tsotest_library.specs.Refused.{IsTextRefused}

-- the text is that of the program, of which the recording is one
pub record IsOwn (x : Execution) (text : List ℕ) (program : Parts) : Type 0 where
  pub read : reading text ≡ Ok program
  pub same : IsProgramOf program x

-- it, or the answer to its refusal
abbrev pub IsOwnOrRefused : Execution → List ℕ → Result Program Answer → Type 0
IsOwnOrRefused x text (Ok program) = IsOwn x text program
IsOwnOrRefused x text (Err answer) = IsTextRefused x text answer

-- the program of a recording by its text; an empty one stands for none
abbrev pub IsProgramOfText : Execution → List ℕ → Option Parts → Type 0
IsProgramOfText x text None = text ≡ []
IsProgramOfText x text (Some program) = (text ≢ []) × IsOwn x text program

-- the rendering of a recording, with its program, and without labels of its events
pub record IsRenderedWith (rendering : Rendering) (x : Execution) (text : List ℕ) (answer : Answer) : Type 0 where
  pub program : Option Parts
  pub given : IsProgramOfText x text program
  pub rendered : IsRenderedAnswer rendering x program [] answer

-- the rendering of it, or that the text of the program is refused
abbrev pub IsRenderedByText : Rendering → Execution → List ℕ → Answer → Type 0
IsRenderedByText rendering x text answer = IsRenderedWith rendering x text answer
    ⊎ ((text ≢ []) × IsTextRefused x text answer)

-- the rendering of the recording that the bytes are
pub record IsRenderedRecording (rendering : Rendering) (bytes text : List ℕ) (answer : Answer) : Type 0 where
  pub recording : Execution
  pub read : IsReadingResult bytes (Ok recording)
  pub rendered : IsRenderedByText rendering recording text answer

-- it, or that the bytes are refused, whatever the text of the program
abbrev pub IsRenderedOf : Rendering → List ℕ → List ℕ → Answer → Type 0
IsRenderedOf rendering bytes text answer = IsRenderedRecording rendering bytes text answer
    ⊎ IsRefusedAnswer bytes answer

-- the rendering of the recording of any length that the bytes are, without labels of its events
pub record IsLongRendered (rendering : Rendering) (bytes : List ℕ) (answer : Answer) : Type 0 where
  pub recording : Execution
  pub read : IsReadingOf Long bytes (Ok recording)
  pub rendered : IsLongRenderedAnswer rendering recording [] answer

-- it, or that the bytes are refused
abbrev pub IsLongRenderedOf : Rendering → List ℕ → Answer → Type 0
IsLongRenderedOf rendering bytes answer = IsLongRendered rendering bytes answer ⊎ IsRefusedOf Long bytes answer

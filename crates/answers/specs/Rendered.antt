-- Renderings of a recording: its verdict in words or as a picture, or what is left of it.
use Rattle.std.specs.Prelude.{◌≡◌, [], ℕ, Bool, Option, Some, None, List, if◌then◌else◌}
use Rattle.std.specs.List.{range_with_len}
use Rattle.program.specs.declared.name.Name.{Name}
use Rattle.program.specs.Parts.{Parts}
use Rattle.recording.specs.Execution.{Execution, event_count}
use Rattle.verdicts.specs.declared.verdict.Verdict.{Verdict}
use Rattle.verdicts.specs.declared.verdict.Verdict.TheVariants.{Ordered, Overlook, Cycle}
use Rattle.verdicts.specs.Judgement.{IsVerdict}
use Rattle.long.specs.declared.answer.LongAnswer.{LongAnswer}
use Rattle.long.specs.declared.answer.LongAnswer.TheVariants as long
use Rattle.long.specs.Answer.{IsLongAnswer, without_labels}
use Rattle.long.specs.Texts.{long_outcome}
use Rattle.reduction.specs.Long.{IsLongReduction}
use Rattle.reduction.specs.Needed.{IsReduction}
use Rattle.event_texts.specs.Names.{Names}
use Rattle.explanation.specs.Explanation.{IsExplanation}
use Rattle.drawing.specs.Drawing.{IsDrawing}
use Rattle.verdicts.specs.declared.printed.Answer.{Answer}
use Rattle.verdicts.specs.VerdictAnswer.{outcome_of}
use Rattle.answers.specs.declared.rendering.Rendering.{Rendering}
use Rattle.answers.specs.declared.rendering.Rendering.TheVariants.{Told, Reduction}
use Rattle.answers.specs.declared.rendering.Telling.{Telling}
use Rattle.answers.specs.declared.rendering.Telling.TheVariants.{Words, Picture, WholePicture}
use Rattle.answers.specs.LongReduced.{IsLongReducedAnswer}
use Rattle.answers.specs.Reduced.{IsReducedAnswer}

-- which picture is drawn: of all events, or of those alone that its verdict needs
abbrev pub picture_form : Bool → Telling
picture_form all = if all then WholePicture else Picture

-- the text is a picture of all events of a recording
abbrev pub IsWholeDrawing : Execution → Names → LongAnswer → List ℕ → Type 0
IsWholeDrawing x names a text = IsDrawing x names (range_with_len 0 (event_count x)) x a text

-- the text is a picture of the verdict on the events y alone, which are those of x that its verdict needs
pub record IsReducedDrawing (x : Execution) (names : Names) (v : Verdict) (text : List ℕ) : Type 0 where
  pub numbers : List ℕ
  pub y : Execution
  pub reduced : IsReduction x v numbers y
  pub verdict : Verdict
  pub found : IsVerdict y verdict
  pub drawn : IsDrawing x names numbers y (without_labels verdict) text

-- all events are drawn where the verdict is an order, else those that it needs
abbrev pub IsPicture : Execution → Names → Verdict → List ℕ → Type 0
IsPicture x names (Ordered m) text = IsWholeDrawing x names (long.Order m) text
IsPicture x names (Overlook l s) text = IsReducedDrawing x names (Overlook l s) text
IsPicture x names (Cycle c) text = IsReducedDrawing x names (Cycle c) text

-- the text is a picture of what is answered to the events y alone, which are those of x that its answer needs
pub record IsPartDrawing (x : Execution) (names : Names) (a : LongAnswer) (text : List ℕ) : Type 0 where
  pub numbers : List ℕ
  pub y : Execution
  pub reduced : IsLongReduction x a numbers y
  pub found : LongAnswer
  pub is : IsLongAnswer y found
  pub drawn : IsDrawing x names numbers y found text

-- so it is of a recording of any length
abbrev pub IsLongPicture : Execution → Names → LongAnswer → List ℕ → Type 0
IsLongPicture x names (long.Order m) text = IsWholeDrawing x names (long.Order m) text
IsLongPicture x names (long.Overlook l s) text = IsPartDrawing x names (long.Overlook l s) text
IsLongPicture x names (long.Cycle c) text = IsPartDrawing x names (long.Cycle c) text

-- the names that the program of a recording gives its addresses; none without a program
abbrev pub addresses_of : Option Parts → List Name
addresses_of (Some p) = p.names
addresses_of None = []

-- these names, and the labels of the events
abbrev pub names_of : Option Parts → List (List ℕ) → Names
names_of p labels = record { addresses = addresses_of p; labels = labels }

-- a text that says the verdict on a recording, and the outcome
pub record IsRendering (tells : Verdict → List ℕ → Type 0) (x : Execution) (answer : Answer) : Type 0 where
  pub verdict : Verdict
  pub found : IsVerdict x verdict
  pub outcome : answer.outcome ≡ outcome_of verdict
  pub told : tells verdict answer.text.items

-- the text tells the verdict in this way
abbrev pub Tells : Telling → Execution → Names → Verdict → List ℕ → Type 0
Tells Words x names v text = IsExplanation x names (without_labels v) text
Tells Picture x names v text = IsPicture x names v text
Tells WholePicture x names v text = IsWholeDrawing x names (without_labels v) text

-- the rendering of a recording, with the names of its program, if that is given, and the labels of its events
abbrev pub IsRenderedAnswer : Rendering → Execution → Option Parts → List (List ℕ) → Answer → Type 0
IsRenderedAnswer (Told telling) x p labels answer = IsRendering (Tells telling x (names_of p labels)) x answer
IsRenderedAnswer Reduction x p labels answer = IsReducedAnswer x p labels answer

-- a text that says what is answered to a recording of any length, and the outcome
pub record IsLongRendering (tells : LongAnswer → List ℕ → Type 0) (x : Execution) (answer : Answer) : Type 0 where
  pub found : LongAnswer
  pub is : IsLongAnswer x found
  pub outcome : answer.outcome ≡ long_outcome found
  pub told : tells found answer.text.items

-- the text tells in this way what is answered to a recording of any length
abbrev pub TellsLong : Telling → Execution → Names → LongAnswer → List ℕ → Type 0
TellsLong Words x names a text = IsExplanation x names a text
TellsLong Picture x names a text = IsLongPicture x names a text
TellsLong WholePicture x names a text = IsWholeDrawing x names a text

-- the rendering of a recording of any length, with the labels of its events
abbrev pub IsLongRenderedAnswer : Rendering → Execution → List (List ℕ) → Answer → Type 0
IsLongRenderedAnswer (Told telling) x labels answer =
    IsLongRendering (TellsLong telling x (names_of None labels)) x answer
IsLongRenderedAnswer Reduction x labels answer = IsLongReducedAnswer x labels answer

-- What is answered of a violation that is cut down to the events that it needs.
use Rattle.std.specs.Prelude.{◌≡◌, ◌++◌, ◌∷◌, ◌==◌, [], ℕ, Option, Some, None, List, codes, if◌then◌else◌, length}
use Rattle.std.specs.List.{flat_map}
use Rattle.program.specs.Parts.{Parts}
use Rattle.litmus.specs.Spelling.{spelling}
use Rattle.recording.specs.Execution.{Execution}
use Rattle.recording.specs.Tso.{IsTsoOrder}
use Rattle.recorder.specs.Text.{recording_text}
use Rattle.relations.specs.Consistency.{HasNoOrder}
use Rattle.verdicts.specs.declared.verdict.Verdict.{Verdict}
use Rattle.verdicts.specs.Judgement.{IsVerdict}
use Rattle.reduction.specs.Needed.{IsReduction}
use Rattle.event_texts.specs.Labels.{label_at}
use Rattle.reduction.specs.RestrictedProgram.{restricted_program}
use Rattle.program_events.specs.NamedProgram.{named_program}
use Rattle.texts.specs.Numbers.{numbers_text}
use Rattle.verdicts.specs.declared.printed.Answer.{Answer}
use Rattle.verdicts.specs.declared.outcome.Outcome.TheVariants.{Violation}
use Rattle.verdicts.specs.VerdictAnswer.{IsVerdictAnswer}

-- the line of a label
abbrev pub label_line : List (List ℕ) → ℕ → List ℕ
label_line labels k = label_at labels k ++ 10 ∷ []

-- the labels of the kept events, a line each, where events have labels
unfoldable pub labels_left : List (List ℕ) → List ℕ → List ℕ
labels_left labels ks = if length labels == 0 then [] else flat_map (label_line labels) ks

-- the line of the numbers that the kept events had, their labels, and an empty line, where they are asked for
abbrev pub heading : Option (List (List ℕ)) → List ℕ → List ℕ
heading None ks = []
heading (Some labels) ks = codes "events" ++ numbers_text ks ++ 10 ∷ [] ++ labels_left labels ks ++ 10 ∷ []

-- a program, an empty line, and the line of a recording
abbrev pub shown_text : Parts → Execution → List ℕ
shown_text p x = spelling p ++ 10 ∷ recording_text x

-- the program of y, which is left of x where the events ks are kept: what is left of the program of x, if there is one
abbrev pub program_left : Option Parts → Execution → List ℕ → Execution → Parts
program_left (Some p) x ks y = restricted_program p x ks
program_left None x ks y = named_program y

-- what is left of a violation where the events alone are kept that it needs: its program, an empty line, and its
-- recording with the verdict on it
pub record IsCutAnswer (x : Execution) (p : Option Parts) (headed : Option (List (List ℕ))) (answer : Answer)
    : Type 0 where
  pub verdict : Verdict
  pub found : IsVerdict x verdict
  pub events : List ℕ
  pub rest : Execution
  pub reduction : IsReduction x verdict events rest
  pub outcome : answer.outcome ≡ Violation
  pub shown : IsVerdictAnswer rest (heading headed events ++ shown_text (program_left p x events rest) rest) answer

-- what is left of a violation, with the numbers and the labels of its events; of another recording the verdict on it
pub record IsReducedAnswer (x : Execution) (p : Option Parts) (labels : List (List ℕ)) (answer : Answer) : Type 0 where
  pub ordered : (m : List ℕ) → IsTsoOrder x m → IsVerdictAnswer x [] answer
  pub violation : HasNoOrder x → IsCutAnswer x p (Some labels) answer

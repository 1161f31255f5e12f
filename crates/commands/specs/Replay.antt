-- What is answered to the bytes of a recording that is to be replayed.
use Rattle.std.specs.Prelude.{◌≡◌, ◌≤◌, ◌⊎◌, ◌++◌, ◌∷◌, [], ℕ, List, Option, Ok, codes, decimal, string_bytes}
use Rattle.command_line.specs.declared.options.FileOptions.{FileOptions}
use Rattle.litmus.specs.Spelling.{spelling}
use Rattle.litmus.specs.Text.{reading}
use Rattle.recording.specs.declared.size.RecordingSize.TheVariants.{Short}
use Rattle.recording.specs.Execution.{Execution}
use Rattle.recording.specs.Tso.{IsTsoOrder}
use Rattle.machine.specs.Script.{steps_of, script_text}
use Rattle.recording.specs.FirstUse.{IsNumberedByFirstUse}
use Rattle.program_events.specs.NamedProgram.{named_program}
use Rattle.replay.specs.OrderReplay.{IsReplay}
use Rattle.replay.specs.Steps.{replay_steps, most_stores}
use Rattle.verdicts.specs.Judgement.{IsOrderedVerdict}
use Rattle.verdicts.specs.declared.printed.Answer.{Answer}
use Rattle.inputs.specs.declared.command_stop.CommandStop.{CommandStop}
use Rattle.verdicts.specs.declared.outcome.Outcome.TheVariants.{Done, Violation}
use Rattle.inputs.specs.Named.{IsRecordingStop, OfRecording}
use Rattle.inputs.specs.Refusal.{IsLineStop}
use Rattle.verdicts.specs.VerdictAnswer.{IsVerdictAnswer}
use Rattle.inputs.specs.Inputs.{Inputs}

-- a capacity, the text of a program and a script, with an empty line between them
abbrev pub parts_text : ℕ → List ℕ → List ℕ → List ℕ
parts_text capacity program script =
    codes "buffer " ++ decimal capacity ++ 10 ∷ 10 ∷ [] ++ program ++ 10 ∷ [] ++ script

-- the capacity, the program and the script that replay an order, as they are printed
abbrev pub replay_text : Execution → List ℕ → List ℕ
replay_text x m =
    parts_text (most_stores x.cores) (spelling (named_program x))
    (script_text (named_program x) (replay_steps x m))

-- the text of the replay of an order: the printed program is read as the program, and the printed script for it as the
-- steps, by which a machine of the program, with room for the stores of a core, replays the order
pub record IsReplayText (x : Execution) (m text : List ℕ) : Type 0 where
  pub is : text ≡ replay_text x m
  pub program : reading (spelling (named_program x)) ≡ Ok (named_program x)
  pub script : steps_of (named_program x) (script_text (named_program x) (replay_steps x m)) ≡ Ok (replay_steps x m)
  pub replay : (capacity : ℕ) → most_stores x.cores ≤ capacity
      → IsReplay x m (named_program x) capacity (replay_steps x m)

-- the replay of a recording's least order
pub record IsReplayAnswer (x : Execution) (answer : Answer) : Type 0 where
  pub order : List ℕ
  pub least : IsOrderedVerdict x order
  pub outcome : answer.outcome ≡ Done
  pub text : IsReplayText x order answer.text.items

-- the verdict on a recording that TSO does not allow
pub record IsViolationAnswer (x : Execution) (answer : Answer) : Type 0 where
  pub no_order : (m : List ℕ) → ¬ IsTsoOrder x m
  pub outcome : answer.outcome ≡ Violation
  pub answered : IsVerdictAnswer x [] answer

-- the replay of a recording, or its violation
abbrev pub IsReplayOf : Execution → Answer → Type 0
IsReplayOf x answer = IsReplayAnswer x answer ⊎ IsViolationAnswer x answer

-- the recording of the named input, whose addresses are numbered by first use, is replayed, or is a violation
abbrev pub IsReplayedInput : Inputs → FileOptions → Answer → Type 0
IsReplayedInput inputs o answer = OfRecording inputs (string_bytes o.file) Short
    (λ x. IsNumberedByFirstUse x × IsReplayOf x answer)

-- why the recording of the named input is not replayed: it isn't read, or its addresses are not numbered by first use;
-- memory alone is left open
abbrev pub IsReplayStop : Inputs → FileOptions → CommandStop → Type 0
IsReplayStop inputs o stop = IsRecordingStop inputs (string_bytes o.file) Short stop
    ⊎ OfRecording inputs (string_bytes o.file) Short
    (λ x. ¬ IsNumberedByFirstUse x × IsLineStop (codes "refused: N8" ++ 10 ∷ []) stop)

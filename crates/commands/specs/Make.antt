-- What make answers.
use Rattle.std.specs.Prelude.{◌≡◌, ◌++◌, ◌∷◌, [], ℕ, List, codes, decimal, string_bytes}
use Rattle.command_line.specs.declared.options.MakeOptions.{MakeOptions}
use Rattle.command_line.specs.declared.options.MakeOptions.TheVariants.{Cycle, All}
use Rattle.cycles.specs.declared.making.Made.{Made}
use Rattle.cycles.specs.declared.refusal.CycleRefusal.{CycleRefusal}
use Rattle.cycles.specs.declared.refusal.CycleRefusal.TheVariants.{Word, Open, Large}
use Rattle.cycles.specs.Made.{IsMade, IsRefusal}
use Rattle.verdicts.specs.declared.printed.Answer.{Answer}
use Rattle.verdicts.specs.VerdictAnswer.{IsVerdictAnswer}
use Rattle.program_answers.specs.Cycles.{IsListAnswer}
use Rattle.answers.specs.Reduced.{shown_text}
use Rattle.inputs.specs.declared.command_error.CommandError.TheVariants.{OutOfMemory}
use Rattle.inputs.specs.declared.command_stop.CommandStop.{CommandStop}
use Rattle.inputs.specs.declared.command_stop.CommandStop.TheVariants.{Refused, Failed}
use Rattle.commands.specs.Choices.{cycle_choice}

-- the program and the recording that are made of the words, with its verdict; or the lines of critical cycles
abbrev pub IsMakeAnswer : MakeOptions → Answer → Type 0
IsMakeAnswer (Cycle words) answer = (m : Made) × IsMade (string_bytes words) m
    × IsVerdictAnswer m.recording (shown_text m.program m.recording) answer
IsMakeAnswer (All events forbidden) answer = IsListAnswer events (cycle_choice forbidden) answer

-- the line that is printed of words of which nothing is made
abbrev pub cycle_line : CycleRefusal → List ℕ
cycle_line (Word n) = codes "refused: E1 word " ++ decimal n ++ 10 ∷ []
cycle_line (Open n) = codes "refused: E2 word " ++ decimal n ++ 10 ∷ []
cycle_line (Large n) = codes "refused: E3 word " ++ decimal n ++ 10 ∷ []

-- why nothing is made
abbrev pub IsMakeStop : MakeOptions → CommandStop → Type 0
IsMakeStop (Cycle words) (Refused refusal) =
    (r : CycleRefusal) × IsRefusal (string_bytes words) r × (string_bytes refusal.line ≡ cycle_line r)
IsMakeStop (All events forbidden) (Refused refusal) = ⊥
IsMakeStop options (Failed error) = error ≡ OutOfMemory

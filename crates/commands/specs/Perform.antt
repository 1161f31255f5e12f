-- What is printed for the words of a command line.
use Rattle.std.specs.Prelude.{◌≡◌, ◌⊎◌, ◌∷◌, [], ℕ, List, Option, Result, Ok, Err, string_bytes, take, ⊤}
use Rattle.std.specs.Io.KnownBytes.{Appends}
use Rattle.clap.specs.Words.{Text}
use Rattle.verdicts.specs.declared.printed.Answer.{Answer}
use Rattle.verdicts.specs.declared.outcome.Outcome.{Outcome}
use Rattle.verdicts.specs.declared.outcome.Outcome.TheVariants as out
use Rattle.devices.specs.declared.host.Tally.{Tally}
use Rattle.devices.specs.Host.{HostLog}
use Rattle.command_line.specs.declared.options.Options.{Options}
use Rattle.command_line.specs.declared.options.Options.TheVariants.{Survey}
use Rattle.command_line.specs.declared.options.OptionStop.{OptionStop}
use Rattle.command_line.specs.declared.options.SurveyOptions.{SurveyOptions}
use Rattle.command_line.specs.Commands.{command_of}
use Rattle.command_line.specs.Options.{AreOptions, IsOptionStop}
use Rattle.inputs.specs.declared.command_error.CommandError.{CommandError}
use Rattle.inputs.specs.declared.command_error.CommandError.TheVariants.{WriteFailed}
use Rattle.inputs.specs.declared.command_stop.CommandStop.{CommandStop}
use Rattle.inputs.specs.declared.command_stop.CommandStop.TheVariants.{Refused, Failed}
use Rattle.inputs.specs.Inputs.{AreRead, AreStopped, AreTakenBack, Inputs, IsStoppedBy}
use Rattle.report.specs.Written.{IsBegun, IsPut}
use Rattle.commands.specs.Command.{IsAnswerTo, IsCommandStop, input_names}
use Rattle.commands.specs.Survey.{IsEachWritten, TellsEach}
pub use Rattle.commands.specs.WithoutOptions.{IsMistake, IsWithoutOptions}

-- the world of a command at a moment: what its host noted, and all that was written, where it is known
pub record World : Type 0 where
  pub log : HostLog
  pub written : Option (List ℕ)

-- the world of a host and a sink of which these are known
abbrev pub world : HostLog → Option (List ℕ) → World
world log written = record { log = log; written = written }

-- what a command with these options answers, by all of its inputs, or why it stops, by the inputs up to there
abbrev pub Answers : Inputs → Options → HostLog → HostLog → Result Answer CommandStop → Type 0
Answers inputs o a b (Ok answer) = IsAnswerTo inputs o answer × AreRead (input_names o) a b
Answers inputs o a b (Err stop) = IsCommandStop inputs o stop × AreStopped (input_names o) stop a b

-- what is answered to the words: what the command does that they ask for, or, where they give no options, help or why
-- there are none, for which no input is opened
abbrev pub AnswersWords : Inputs → List Text → HostLog → HostLog → Result Answer CommandStop → Type 0
AnswersWords inputs words a b answered =
    ((o : Options) × AreOptions o (command_of words) × Answers inputs o a b answered)
    ⊎ ((stop : OptionStop) × IsOptionStop stop words × IsWithoutOptions stop answered × AreRead [] a b)

-- the output of what is answered: the answer, or a line of refusal; an error has none
abbrev pub IsOutputOf : Result Answer CommandStop → Answer → Type 0
IsOutputOf (Ok answer) output = output ≡ answer
IsOutputOf (Err (Refused refusal)) output = (output.outcome ≡ out.Refused)
    × (output.text.items ≡ string_bytes refusal.line)
IsOutputOf (Err (Failed error)) output = ⊥

-- the output for the words
abbrev pub IsOutputFor : Inputs → List Text → HostLog → HostLog → Answer → Type 0
IsOutputFor inputs words a b output =
    (answered : Result Answer CommandStop) × AnswersWords inputs words a b answered × IsOutputOf answered output

-- an output was written, whole, or, where a write failed, its first bytes
abbrev pub IsWritten : Answer → Option (List ℕ) → Option (List ℕ) → Result Outcome CommandError → Type 0
IsWritten output before after (Ok outcome) = (outcome ≡ output.outcome) × Appends before after output.text.items
IsWritten output before after (Err error) = error ≡ WriteFailed
    → (n : ℕ) × Appends before after (take n output.text.items)

-- a part of the output is written before the input's end: the lines of a survey that tells each recording
abbrev pub WritesEarly : Options → Type 0
WritesEarly (Survey o) = TellsEach o
WritesEarly other = ⊥

-- the output is written when all of it is known
abbrev pub WritesAtOnce : List Text → Type 0
WritesAtOnce words = (o : Options) → AreOptions o (command_of words) → WritesEarly o → ⊥

-- the lines of recordings and their counts were written, by all of the input, for words that ask for them
abbrev pub IsEachWrittenFor : Inputs → List Text → World → World → Outcome → Type 0
IsEachWrittenFor inputs words before after outcome = (o : SurveyOptions) × AreOptions (Survey o) (command_of words)
    × IsEachWritten inputs o before.written after.written outcome
    × AreRead (string_bytes o.file ∷ []) before.log after.log

-- what was written for the words, and its outcome: the output for them, or the lines of recordings; or, where a write
-- failed, and all is written at once, the first bytes of the output
abbrev pub IsWrittenFor : Inputs → List Text → World → World → Result Outcome CommandError → Type 0
IsWrittenFor inputs words before after (Ok outcome) =
    IsPut (IsOutputFor inputs words before.log after.log) before.written after.written outcome
    ⊎ IsEachWrittenFor inputs words before after outcome
IsWrittenFor inputs words before after (Err error) = error ≡ WriteFailed → WritesAtOnce words
    → IsBegun (IsOutputFor inputs words before.log after.log) before.written after.written

-- why nothing is written for these options, or not all
abbrev pub IsErrorFor : Inputs → Options → HostLog → HostLog → CommandError → Type 0
IsErrorFor inputs o a b WriteFailed = ⊤
IsErrorFor inputs o a b error = Answers inputs o a b (Err (Failed error))

-- why nothing is written for the words, or not all
abbrev pub IsErrorOf : Inputs → List Text → HostLog → HostLog → CommandError → Type 0
IsErrorOf inputs words a b error =
    ((o : Options) × AreOptions o (command_of words) × IsErrorFor inputs o a b error)
    ⊎ ((stop : OptionStop) × IsOptionStop stop words
    × (IsWithoutOptions stop (Err (Failed error)) ⊎ (error ≡ WriteFailed)) × AreRead [] a b)

-- the tally after a command: without an error each input was read to its end and taken back
abbrev pub Tallies : {X : Type 0} → Tally → Tally → Result X CommandError → Type 0
Tallies before after (Ok x) = AreTakenBack before after
Tallies before after (Err error) = IsStoppedBy (Failed error) before after

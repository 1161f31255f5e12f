-- What is written, from what is answered.
use Rattle.std.proofs.Common.{◌≡◌, ◌≢◌, ◌∙◌, ◌||◌, inl, inr, ℕ, List, Option, Result, Ok, Err, IfOk, IfErr, ap}
use Rattle.std.proofs.Common.{subst, sym}
use Rattle.std.specs.Prelude.{string_bytes}
use Rattle.command_line.specs.declared.options.Options.{Options}
use Rattle.command_line.specs.declared.options.Options.TheVariants.{Survey}
use Rattle.command_line.specs.declared.options.SurveyOptions.{SurveyOptions}
use Rattle.command_line.specs.Commands.{command_of}
use Rattle.command_line.specs.Options.{AreOptions}
use Rattle.clap.specs.Words.{Text}
use Rattle.devices.specs.declared.host.Tally.{Tally}
use Rattle.devices.specs.Host.{HostLog}
use Rattle.verdicts.specs.declared.outcome.Outcome.{Outcome}
use Rattle.verdicts.specs.declared.printed.Answer.{Answer}
use Rattle.inputs.specs.declared.command_error.CommandError.{CommandError}
use Rattle.inputs.specs.declared.command_error.CommandError.TheVariants.{WriteFailed}
use Rattle.inputs.specs.declared.command_stop.CommandStop.{CommandStop}
use Rattle.inputs.specs.declared.command_stop.CommandStop.TheVariants.{Failed, Refused}
use Rattle.inputs.specs.Inputs.{AreTakenBack, Inputs, ReadsInput, ReadsNamed, is_read_failure}
use Rattle.commands.specs.Command.{IsAnswerTo, IsCommandStop, input_names}
use Rattle.commands.specs.Perform.{Answers, IsOutputFor, IsOutputOf, IsWritten, IsWrittenFor, Tallies, World, world}
use Rattle.commands.specs.Survey.{IsEachWritten, TellsEach}

-- the output of what is printed for the words is written for them
pub output_written : (inputs : Inputs) (words : List Text) (before : World) (b c : HostLog) (after : Option (List ℕ))
    (answer : Answer) (r : Result Outcome CommandError) → c ≡ b → IsOutputFor inputs words before.log b answer
    → IsWritten answer before.written after r → IsWrittenFor inputs words before (world c after) r
output_written inputs words before b c after answer (Ok outcome) same is output =
    subst (λ (l : HostLog). IsWrittenFor inputs words before (world l after) (Ok outcome)) (sym same)
    (inl (answer, is, output.0, output.1))
output_written inputs words before b c after answer (Err error) same is output =
    subst (λ (l : HostLog). IsWrittenFor inputs words before (world l after) (Err error)) (sym same)
    (λ failed at_once. let (n, written) = output failed in (answer, is, n, written))

-- the lines of recordings are written for the words that ask for them
pub each_written : (inputs : Inputs) (words : List Text) (o : SurveyOptions) (before after : World)
    (r : Result Outcome CommandError) → AreOptions (Survey o) (command_of words) → TellsEach o
    → IfOk r (IsEachWritten inputs o before.written after.written)
    → ReadsInput (string_bytes o.file) before.log after.log r → IsWrittenFor inputs words before after r
each_written inputs words o before after (Ok outcome) are told written read = inr (o, are, written, read)
each_written inputs words o before after (Err error) are told written reads =
    λ failed at_once. absurd (at_once (Survey o) are told)

-- what a command answers, or why it stops, by what it reads
pub answers : (inputs : Inputs) (o : Options) (a b : HostLog) (r : Result Answer CommandStop)
    → IfOk r (IsAnswerTo inputs o) → IfErr r (IsCommandStop inputs o) → ReadsNamed (input_names o) a b r
    → Answers inputs o a b r
answers inputs o a b (Ok answer) is stops reads = (is, reads)
answers inputs o a b (Err stop) is stops reads = (stops, reads)

-- nothing is written where all of the answer is printed at once
pub unwritten_more : (r : Result Outcome CommandError) (early at_once same : Type 0) → (at_once → early → ⊥)
    → IfErr r (λ error. error ≢ WriteFailed → (early → ⊥) → same)
    → IfErr r (λ error. error ≢ WriteFailed → at_once → same)
unwritten_more (Ok outcome) early at_once same not is = tt
unwritten_more (Err error) early at_once same not is = λ other once. is other (not once)

-- what was answered before it was written left no input lent
pub taken_back : (names : List (List ℕ)) (a b : HostLog) (answered : Result Answer CommandStop) (output : Answer)
    → ReadsNamed names a b answered → IsOutputOf answered output → AreTakenBack a.tally b.tally
taken_back names a b (Ok answer) output reads is = reads.1
taken_back names a b (Err (Refused refusal)) output reads is = reads.stopped
taken_back names a b (Err (Failed error)) output reads is = absurd is

-- to write reads nothing
pub tallied : (a b c : HostLog) (r : Result Outcome CommandError) → AreTakenBack a.tally b.tally → c ≡ b
    → IfErr r (λ error. error ≡ WriteFailed) → Tallies a.tally c.tally r
tallied a b c (Ok outcome) taken same wrote = λ idle. ap (λ (l : HostLog). l.tally) same ∙ taken idle
tallied a b c (Err error) taken same wrote = λ idle.
    let all = ap (λ (l : HostLog). l.tally) same ∙ taken idle in (
      ap (λ (t : Tally). t.is_lent) all ∙ idle,
      subst (λ (e : CommandError). c.tally.has_failed ≡ (is_read_failure e || a.tally.has_failed)) (sym wrote)
          (ap (λ (t : Tally). t.has_failed) all),
    )

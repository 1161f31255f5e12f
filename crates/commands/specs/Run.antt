-- What a program's run, or a campaign of them, is answered, and why it stops.
use Rattle.std.specs.Prelude.{◌≡◌, ◌⊎◌, ℕ, List, Option, Some, None, Ok, if◌then◌else◌, length, option_map}
use Rattle.std.specs.Prelude.{string_bytes, ⊤}
use Rattle.verdicts.specs.declared.printed.Answer.{Answer}
use Rattle.run_answers.specs.Campaign.{IsCampaignAnswer, IsShownAnswer}
use Rattle.run_answers.specs.Histogram.{IsLiveHistogramAnswer, IsSeededHistogramAnswer}
use Rattle.run_answers.specs.Run.{IsRunAnswer, IsSeededAnswer, script_state}
use Rattle.command_line.specs.declared.options.LiveOptions.{LiveOptions}
use Rattle.command_line.specs.declared.options.RunOptions.{RunOptions}
use Rattle.command_line.specs.declared.options.TrialsOptions.{TrialsOptions}
use Rattle.headers.specs.declared.header.Header.{Header}
use Rattle.headers.specs.Headers.{header_of}
use Rattle.commands.specs.Choices.{violation_form}
use Rattle.commands.specs.Headed.{IsHeaded}
use Rattle.histograms.specs.declared.live_runs.LiveRuns.{LiveRuns}
use Rattle.histograms.specs.declared.seeded_runs.SeededRuns.{SeededRuns}
use Rattle.program.specs.Parts.{Parts}
use Rattle.program.specs.declared.fault.Fault.TheVariants as fault
use Rattle.machine.specs.declared.step.Step.{Step}
use Rattle.machine.specs.State.{State, IsComplete}
use Rattle.machine.specs.Taken.{all_taken, begun}
use Rattle.machine.specs.Script.{steps_of}
use Rattle.inputs.specs.declared.command_stop.CommandStop.{CommandStop}
use Rattle.inputs.specs.declared.command_stop.CommandStop.TheVariants.{Refused, Failed}
use Rattle.inputs.specs.declared.command_error.CommandError.TheVariants.{NoThread, Stranger}
use Rattle.inputs.specs.Inputs.{AreBytesOf, Inputs, IsInputError}
use Rattle.inputs.specs.Named.{IsProgramStop, OfProgram}
use Rattle.inputs.specs.Refusal.{IsReadingStop, step_refusal_name}

-- the answer of a program and the script of this name
abbrev pub IsScriptAnswer : Inputs → RunOptions → Parts → List ℕ → Answer → Type 0
IsScriptAnswer inputs o program name answer = (text : List ℕ) × AreBytesOf inputs name text
    × (script : List Step) × (steps_of program text ≡ Ok script)
    × IsRunAnswer o.fault program (script_state program o.buffer o.fault script) answer

-- the answer of a program, and of a script where one is named, or else of random steps
abbrev pub IsRunOf : Inputs → RunOptions → Parts → Option (List ℕ) → Answer → Type 0
IsRunOf inputs o program (Some name) answer = IsScriptAnswer inputs o program name answer
IsRunOf inputs o program None answer = IsSeededAnswer program o.buffer o.fault o.seed o.attempts answer

-- the random runs that are counted
abbrev pub seeded_runs : RunOptions → ℕ → SeededRuns
seeded_runs o n = record {
  seed = o.seed;
  runs = n;
  attempts = o.attempts;
  buffer = o.buffer;
  fault = o.fault;
  workers = o.workers;
}

-- the answer of one run, or the histogram of as many as are counted
abbrev pub IsRunsAnswer : Inputs → RunOptions → Parts → Option ℕ → Answer → Type 0
IsRunsAnswer inputs o program None answer = IsRunOf inputs o program (option_map string_bytes o.steps) answer
IsRunsAnswer inputs o program (Some n) answer = IsSeededHistogramAnswer program (seeded_runs o n) answer

-- the answer of run
abbrev pub IsRun : Inputs → RunOptions → Answer → Type 0
IsRun inputs o answer = OfProgram inputs (string_bytes o.program)
    (λ program. IsRunsAnswer inputs o program o.runs answer)

-- the script of this name is refused for the program, or isn't read
abbrev pub IsScriptStop : Inputs → List ℕ → CommandStop → Parts → Type 0
IsScriptStop inputs name (Refused refusal) program = (text : List ℕ) × AreBytesOf inputs name text
    × IsReadingStop step_refusal_name (steps_of program text) (Refused refusal)
IsScriptStop inputs name (Failed error) program = IsInputError inputs name error

-- why a run stops: its program does, or the script where one is named
abbrev pub IsRunStop : Inputs → RunOptions → Option (List ℕ) → CommandStop → Type 0
IsRunStop inputs o (Some name) stop = IsProgramStop inputs (string_bytes o.program) stop
    ⊎ OfProgram inputs (string_bytes o.program) (IsScriptStop inputs name stop)
IsRunStop inputs o None stop = IsProgramStop inputs (string_bytes o.program) stop

-- the answer of a program, and of the steps that threads chose: they come to an end, or are as many as may be
pub record IsOneLive (o : LiveOptions) (program : Parts) (answer : Answer) : Type 0 where
  pub steps : List Step
  pub state : State
  pub taken : all_taken program.cores o.buffer fault.None (begun program) steps ≡ Ok state
  pub ended : IsComplete program.cores state ⊎ (length steps ≡ o.limit)
  pub answered : IsRunAnswer fault.None program state answer

-- the runs by threads that are counted
abbrev pub live_runs : LiveOptions → ℕ → LiveRuns
live_runs o n = record { runs = n; buffer = o.buffer; limit = o.limit }

-- the answer of one run by threads, or the histogram of as many as are counted
abbrev pub IsLiveAnswer : LiveOptions → Parts → Option ℕ → Answer → Type 0
IsLiveAnswer o program None answer = IsOneLive o program answer
IsLiveAnswer o program (Some n) answer = IsLiveHistogramAnswer program (live_runs o n) answer

-- the answer of live
abbrev pub IsLive : Inputs → LiveOptions → Answer → Type 0
IsLive inputs o answer = OfProgram inputs (string_bytes o.program) (λ program. IsLiveAnswer o program o.runs answer)

-- the named program is refused or isn't read, or it is read and threads fail
abbrev pub IsLiveStop : Inputs → LiveOptions → CommandStop → Type 0
IsLiveStop inputs o (Refused refusal) = IsProgramStop inputs (string_bytes o.program) (Refused refusal)
IsLiveStop inputs o (Failed NoThread) = OfProgram inputs (string_bytes o.program) (λ _. ⊤)
IsLiveStop inputs o (Failed Stranger) = OfProgram inputs (string_bytes o.program) (λ _. ⊤)
IsLiveStop inputs o (Failed error) = IsInputError inputs (string_bytes o.program) error

-- the header of a campaign, where one is asked for
abbrev pub campaign_header : TrialsOptions → Option Header
campaign_header o = if o.header then Some (header_of o.campaign) else None

-- the answer of trials: the counts of all of them, or the one that is to be shown
abbrev pub IsTrials : TrialsOptions → Option ℕ → Answer → Type 0
IsTrials o None answer = (counts : Answer) × IsCampaignAnswer o.campaign counts
    × IsHeaded (campaign_header o) counts answer
IsTrials o (Some k) answer = IsShownAnswer o.campaign k (violation_form o.reduce) answer

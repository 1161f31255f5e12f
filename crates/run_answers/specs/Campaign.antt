-- What is answered of campaigns.
use Rattle.std.specs.Prelude.{◌≡◌, ◌++◌, ◌∷◌, ℕ, None, Some, List}
use Rattle.program.specs.Parts.{Parts}
use Rattle.litmus.specs.Spelling.{spelling}
use Rattle.relations.specs.Consistency.{HasNoOrder}
use Rattle.program.specs.declared.fault.Fault.{Fault}
use Rattle.machine.specs.Configuration.{Configuration}
use Rattle.machine.specs.State.{State, IsComplete, recorded}
use Rattle.ledger.specs.declared.ledger.Ledger.{Ledger}
use Rattle.ledger.specs.Counts.{IsLedger}
use Rattle.trials.specs.Campaigns.{Plan}
use Rattle.trials.specs.Codes.{AreCodes, EndsIn, program_of_trial}
use Rattle.verdicts.specs.declared.printed.Answer.{Answer}
use Rattle.answers.specs.declared.reduced.ViolationForm.{ViolationForm}
use Rattle.answers.specs.declared.reduced.ViolationForm.TheVariants.{Reduced}
use Rattle.answers.specs.Campaign.{IsTrialsAnswer}
use Rattle.answers.specs.Reduced.{IsCutAnswer}
use Rattle.run_answers.specs.Run.{IsRunAnswer}

-- the text of the ledger of all trials of a campaign, and their outcome
pub record IsCampaignAnswer (p : Plan) (answer : Answer) : Type 0 where
  pub codes : List ℕ
  pub all : AreCodes p codes
  pub ledger : Ledger
  pub counted : IsLedger codes ledger
  pub answered : IsTrialsAnswer ledger answer

-- the program of a run, an empty line, and the answer of the run
pub record IsWholeShown (fault : Fault) (p : Parts) (s : State) (answer : Answer) : Type 0 where
  pub run : Answer
  pub answered : IsRunAnswer fault p s run
  pub outcome : answer.outcome ≡ run.outcome
  pub text : answer.text.items ≡ spelling p ++ 10 ∷ run.text.items

-- a run is complete, and no memory order of TSO explains its recording
abbrev pub IsViolation : Parts → State → Type 0
IsViolation p s = IsComplete p.cores s × HasNoOrder (recorded p.cores s)

-- what is shown of a run: a violation is cut down to the events that it needs where that is asked for
pub record IsShownRun (fault : Fault) (p : Parts) (s : State) (form : ViolationForm) (answer : Answer)
    : Type 0 where
  pub whole : (form ≡ Reduced → ¬ IsViolation p s) → IsWholeShown fault p s answer
  pub cut : form ≡ Reduced → IsViolation p s → IsCutAnswer (recorded p.cores s) (Some p) None answer

-- what is shown of the run of trial k
pub record IsShownAnswer (p : Plan) (k : ℕ) (form : ViolationForm) (answer : Answer) : Type 0 where
  pub end : Configuration
  pub ends : EndsIn p k end
  pub shown : IsShownRun p.fault (program_of_trial p k) end.state form answer

-- What is answered of runs.
use Rattle.std.specs.Prelude.{◌≡◌, ◌⊎◌, ◌++◌, ◌∷◌, [], ℕ, List, codes}
use Rattle.rand_xoshiro.specs.SplitMix64.{splitmix_seed}
use Rattle.rand_xoshiro.specs.Xoshiro256.{of_seed}
use Rattle.program.specs.Parts.{Parts}
use Rattle.recording.specs.Execution.{Execution}
use Rattle.recorder.specs.Text.{recording_text}
use Rattle.recording.specs.Tso.{IsTsoOrder}
use Rattle.program.specs.declared.fault.Fault.{Fault}
use Rattle.program.specs.declared.fault.Fault.TheVariants as faults
use Rattle.machine.specs.declared.step.Step.{Step}
use Rattle.machine.specs.Configuration.{Configuration, state_after}
use Rattle.machine.specs.State.{State, IsComplete, recorded}
use Rattle.verdicts.specs.Judgement.{IsOrderedVerdict}
use Rattle.verdicts.specs.VerdictText.{order_line}
use Rattle.trials.specs.Judged.{begun_machine}
use Rattle.trials.specs.Schedule.{IsRandomRun}
use Rattle.verdicts.specs.declared.printed.Answer.{Answer}
use Rattle.verdicts.specs.declared.outcome.Outcome.TheVariants.{Ordered, Unfinished}
use Rattle.verdicts.specs.VerdictAnswer.{IsVerdictAnswer}

-- a recording and the least order that TSO allows for it
pub record IsOrderedAnswer (x : Execution) (answer : Answer) : Type 0 where
  pub order : List ℕ
  pub least : IsOrderedVerdict x order
  pub outcome : answer.outcome ≡ Ordered
  pub text : answer.text.items ≡ recording_text x ++ order_line order

-- of a machine without fault: the recording of a run that is complete and its least order, and what was
-- performed is an order that TSO allows
pub record IsFaultlessAnswer (p : Parts) (s : State) (answer : Answer) : Type 0 where
  pub outcome : (answer.outcome ≡ Ordered) ⊎ (answer.outcome ≡ Unfinished)
  pub done : IsComplete p.cores s → IsOrderedAnswer (recorded p.cores s) answer
  pub tso : answer.outcome ≡ Ordered → IsTsoOrder (recorded p.cores s) s.performed

-- the recording of a run that is complete and the verdict on it, or that the run is unfinished
pub record IsRunAnswer (fault : Fault) (p : Parts) (s : State) (answer : Answer) : Type 0 where
  pub judged : IsComplete p.cores s
      → IsVerdictAnswer (recorded p.cores s) (recording_text (recorded p.cores s)) answer
  pub unfinished : (IsComplete p.cores s → ⊥) → (answer.outcome ≡ Unfinished)
      × (answer.text.items ≡ codes "unfinished" ++ 10 ∷ [])
  pub incomplete : answer.outcome ≡ Unfinished → IsComplete p.cores s → ⊥
  pub faultless : fault ≡ faults.None → IsFaultlessAnswer p s answer

-- the state of a program after a script, of which the steps that are blocked are skipped
abbrev pub script_state : Parts → ℕ → Fault → List Step → State
script_state p capacity fault script = state_after (begun_machine p capacity fault) script

-- the answer of a random run of a program, whose steps the words of a seeded generator name
pub record IsSeededAnswer (p : Parts) (capacity : ℕ) (fault : Fault) (seed attempts : ℕ) (answer : Answer)
    : Type 0 where
  pub end : Configuration
  pub rest : List ℕ
  pub run : IsRandomRun attempts (begun_machine p capacity fault) (of_seed (splitmix_seed 32 seed)) end rest
  pub answered : IsRunAnswer fault p end.state answer

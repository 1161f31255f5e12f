-- That steps replay a memory order: the machine takes them all, and makes the recording again.
use Rattle.std.specs.Prelude.{◌≡◌, ◌≤◌, ◌*◌, ◌↔◌, ℕ, List, length, Ok, All}
use Rattle.std.specs.List.{AllByRecursion}
use Rattle.program.specs.Parts.{Parts, IsProgram, Small, IsSmall}
use Rattle.recording.specs.Execution.{Execution, event_count}
use Rattle.recording.specs.Recording.{IsShortRecording}
use Rattle.recording.specs.Tso.{IsTsoOrder}
use Rattle.program.specs.declared.fault.Fault.TheVariants as fault
use Rattle.machine.specs.declared.step.Step.{Step}
use Rattle.machine.specs.State.{State, recorded, IsComplete}
use Rattle.machine.specs.Step.{run}
use Rattle.machine.specs.Taken.{all_taken, begun}
use Rattle.machine.specs.Script.{IsStepOf}
use Rattle.recording.specs.FirstUse.{IsNumberedByFirstUse}
use Rattle.replay.specs.Steps.{most_stores, replay_steps}
use Rattle.program_events.specs.NamedProgram.{program_of, named_program}

-- the state that steps without fault lead to from the beginning
abbrev pub led_to : Parts → ℕ → List Step → State
led_to p capacity steps = run p.cores capacity fault.None (begun p) steps

-- the steps are the program's, which is lawful, at most three times as many as the events, are all taken, come
-- to the end, perform this order, and make this recording
pub record IsReplay (x : Execution) (m : List ℕ) (p : Parts) (capacity : ℕ) (steps : List Step) : Type 0 where
  pub lawful : IsProgram p
  pub taken : all_taken p.cores capacity fault.None (begun p) steps ≡ Ok (led_to p capacity steps)
  pub complete : IsComplete p.cores (led_to p capacity steps)
  pub performed : (led_to p capacity steps).performed ≡ m
  pub recording : recorded p.cores (led_to p capacity steps) ≡ x
  pub within : All (IsStepOf p) steps
  pub few : length steps ≤ 3 * event_count x

-- a recording no larger than a program, with values of 32 bits, whose addresses are numbered by first use, none unused
pub record IsReplayable (x : Execution) : Type 0 where
  pub recording : IsShortRecording x
  pub small : AllByRecursion (AllByRecursion Small) (program_of x) × AllByRecursion IsSmall x.initial
  pub numbered : IsNumberedByFirstUse x

-- each TSO order of a replayable recording is replayed, with any capacity of at least 1 that holds the stores of
-- a core
abbrev pub EveryOrderIsReplayed : Execution → List ℕ → ℕ → Type 0
EveryOrderIsReplayed x m capacity = IsReplayable x → IsTsoOrder x m → most_stores x.cores ≤ capacity
    → IsReplay x m (named_program x) capacity (replay_steps x m)

-- with a capacity of at least 1 that holds the stores of a core, some program makes, in a run without fault, among
-- the replayable recordings exactly those that have a TSO order
abbrev pub MakesExactlyTso : Execution → ℕ → Type 0
MakesExactlyTso x capacity = IsReplayable x → most_stores x.cores ≤ capacity
    → ((p : Parts) × (steps : List Step) × IsProgram p × IsComplete p.cores (led_to p capacity steps)
    × (recorded p.cores (led_to p capacity steps) ≡ x)) ↔ ((m : List ℕ) × IsTsoOrder x m)

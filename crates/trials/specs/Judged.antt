-- What is judged of a machine in which a run ends.
use Rattle.std.specs.Prelude.{◌≡◌, ℕ, List, Option, None, Some, ⊤}
use Rattle.program.specs.Parts.{Parts}
use Rattle.recording.specs.Execution.{Execution}
use Rattle.recording.specs.Recording.{IsShortRecording}
use Rattle.recording.specs.Tso.{IsTsoOrder}
use Rattle.program.specs.declared.fault.Fault.{Fault}
use Rattle.program.specs.declared.fault.Fault.TheVariants as faults
use Rattle.machine.specs.declared.step.Step.{Step}
use Rattle.machine.specs.Taken.{begun}
use Rattle.machine.specs.Configuration.{Configuration, IsAtEnd, recording_of, state_after}
use Rattle.program_events.specs.ProgramOf.{IsProgramOf}
use Rattle.verdicts.specs.declared.verdict.Verdict.{Verdict}
use Rattle.verdicts.specs.declared.verdict.Verdict.TheVariants.{Ordered, Overlook, Cycle}
use Rattle.verdicts.specs.Judgement.{IsVerdict}
use Rattle.verdicts.specs.Verified.{Verifies}
use Rattle.trials.specs.declared.judging.Judged.{Judged}

-- the machine in which a program begins
abbrev pub begun_machine : Parts → ℕ → Fault → Configuration
begun_machine program capacity fault = record {
  program = program;
  capacity = capacity;
  fault = fault;
  state = begun program;
}

-- the machine after a list of steps
abbrev pub ran : Configuration → List Step → Configuration
ran h steps = record h { state = state_after h steps }

-- the recording of a machine, none where it is not complete
abbrev pub IsEndRecording : Configuration → Option Execution → Type 0
IsEndRecording h None = IsAtEnd h → ⊥
IsEndRecording h (Some x) = IsAtEnd h × (x ≡ recording_of h)

-- the verdict on it
abbrev pub IsEndVerdict : Configuration → Option Verdict → Type 0
IsEndVerdict h None = IsAtEnd h → ⊥
IsEndVerdict h (Some verdict) = IsAtEnd h × IsVerdict (recording_of h) verdict

-- the recording of a complete machine, which is one of its program and no larger, and the verdict on it, which passes
-- its check; without fault the order of what was performed is one of TSO
pub record IsJudgement (h : Configuration) (j : Judged) : Type 0 where
  pub complete : IsAtEnd h
  pub recording : j.recording ≡ recording_of h
  pub short : IsShortRecording j.recording
  pub program : IsProgramOf h.program j.recording
  pub verdict : IsVerdict j.recording j.verdict
  pub verified : Verifies j.recording j.verdict
  pub tso : h.fault ≡ faults.None → IsTsoOrder (recording_of h) h.state.performed

-- none where the machine is not complete
abbrev pub IsJudgedEnd : Configuration → Option Judged → Type 0
IsJudgedEnd h None = IsAtEnd h → ⊥
IsJudgedEnd h (Some j) = IsJudgement h j

-- no violation: an order, or none where the machine is not complete
abbrev pub IsLawful : Option Verdict → Type 0
IsLawful None = ⊤
IsLawful (Some (Ordered order)) = ⊤
IsLawful (Some (Overlook load store)) = ⊥
IsLawful (Some (Cycle certificate)) = ⊥

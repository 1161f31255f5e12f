-- A machine and the steps that led to it.
use Rattle.std.specs.Prelude.{◌≡◌, ◌⊎◌, ℕ, List, length, Ok}
use Rattle.machine.specs.declared.step.Step.{Step}
use Rattle.machine.specs.Taken.{all_taken, begun}
use Rattle.machine.specs.Configuration.{Configuration, IsAtEnd}

-- a machine, the steps that it took, and how many it may take
pub record Trace : Type 0 where
  pub machine : Configuration
  pub steps : List Step
  pub limit : ℕ

-- from where the machine's program begins, each of the steps is taken under the machine's fault, and they
-- lead to the machine's state
abbrev pub IsTrace : Trace → Type 0
IsTrace t =
    all_taken t.machine.program.cores t.machine.capacity t.machine.fault (begun t.machine.program) t.steps
    ≡ Ok t.machine.state

-- the machine is complete, or has taken all steps that it may take
abbrev pub IsEnded : Trace → Type 0
IsEnded t = IsAtEnd t.machine ⊎ (length t.steps ≡ t.limit)

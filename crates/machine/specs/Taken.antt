-- Lists of steps of which none is blocked.
use Rattle.std.specs.Prelude.{ℕ, List, [], ◌∷◌, Result, Ok, Err}
use Rattle.program.specs.declared.op.Op.{Op}
use Rattle.program.specs.Parts.{Parts}
use Rattle.program.specs.declared.fault.Fault.{Fault}
use Rattle.machine.specs.declared.step.Step.{Step}
use Rattle.machine.specs.declared.blocked.Blocked.{Blocked}
use Rattle.machine.specs.State.{State, opening}
use Rattle.machine.specs.Step.{step_result}

-- the state in which a program begins
abbrev pub begun : Parts → State
begun p = opening p.cores p.init

-- goes on from a state, or is blocked
abbrev pub unless_blocked : Result State Blocked → (State → Result State Blocked) → Result State Blocked
unless_blocked (Ok s) rest = rest s
unless_blocked (Err b) rest = Err b

-- the state that steps lead to where each of them is taken, or why the first other one is blocked
abbrev pub all_taken : List (List Op) → ℕ → Fault → State → List Step → Result State Blocked
all_taken p capacity fault s [] = Ok s
all_taken p capacity fault s (step ∷ steps) =
    unless_blocked (step_result p capacity fault s step) (λ t. all_taken p capacity fault t steps)

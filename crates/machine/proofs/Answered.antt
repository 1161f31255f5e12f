-- What a call answers that takes a step.
use Rattle.std.proofs.Common.{◌≡◌, Ok, Err, Result}
use Rattle.machine.specs.declared.blocked.Blocked.{Blocked}
use Rattle.machine.specs.State.{State}
use Rattle.machine.specs.Configuration.{Configuration, IsStepAnswer}

-- a step that is taken
pub taken : {A : Type 0} {x : A} {answer : Result State Blocked} {h g : Configuration} → answer ≡ Ok g.state
    → g ≡ record h { state = g.state } → IsStepAnswer answer h g (Ok x)
taken is rest = record { ok = is; blocked = tt; rest = rest; unchanged = tt }

-- a step that is blocked
pub blocked : {A : Type 0} {b : Blocked} {answer : Result State Blocked} {h g : Configuration} → answer ≡ Err b
    → g ≡ h → IsStepAnswer {A = A} answer h g (Err b)
blocked is same = record { ok = tt; blocked = is; rest = tt; unchanged = same }

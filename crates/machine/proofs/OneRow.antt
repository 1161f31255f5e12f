-- Each fault changes one row of the table of steps.
use Rattle.std.proofs.Common.{◌≡◌, ℕ, false, cond, Option, Some, None, Result, Err, List, [], refl, ap}
use Rattle.std.proofs.Common.{slice_get, slice_index_or, nat_lt, length}
use Rattle.program.specs.declared.op.Op.{Op}
use Rattle.program.specs.declared.op.Op.TheVariants.{Ld, Fence, Swap, Add, Cas}
use Rattle.program.specs.declared.fault.Fault.{Fault}
use Rattle.program.specs.declared.fault.Fault.TheVariants as fault
use Rattle.machine.specs.declared.step.Step.TheVariants.{Exec, Drain, GetM}
use Rattle.machine.specs.declared.blocked.Blocked.{Blocked}
use Rattle.machine.specs.declared.blocked.Blocked.TheVariants.{B8}
use Rattle.machine.specs.State.{State, place_of}
use Rattle.machine.specs.OneRow.{changes, EveryFaultChangesOneRow}
use Rattle.machine.specs.Step.{exec, exec_next}

-- an operation whose row the fault leaves
exec_same : (capacity : ℕ) (f : Fault) (s : State) (c e : ℕ) (op : Op) → changes f (Exec c) (Some op) ≡ false
    → exec capacity f s c e op ≡ exec capacity fault.None s c e op
exec_same capacity fault.None s c e op h = refl
exec_same capacity fault.NoBypass s c e (Ld a) h = absurd cc
exec_same capacity fault.YoungestFirst s c e Fence h = refl
exec_same capacity fault.OpenFence s c e Fence h = absurd cc
exec_same capacity fault.StaleShare s c e Fence h = refl
exec_same capacity fault.EarlyRmw s c e (Swap a v) h = absurd cc
exec_same capacity fault.EarlyRmw s c e (Add a v) h = absurd cc
exec_same capacity fault.EarlyRmw s c n (Cas a e v) h = absurd cc
exec_same capacity f s c e op h = refl

-- the next operation, where one is left
next_same : (p : List (List Op)) (capacity : ℕ) (f : Fault) (s : State) (c : ℕ) (o : Option Op)
    → changes f (Exec c) o ≡ false → exec_next p capacity f s c o ≡ exec_next p capacity fault.None s c o
next_same p capacity f s c None h = refl
next_same p capacity f s c (Some op) h = exec_same capacity f s c _ op h

-- a step whose row the fault leaves
pub one_row : EveryFaultChangesOneRow
one_row p capacity f s (Exec c) h = ap (λ (r : Result State Blocked). cond (nat_lt c (length p)) r (Err B8))
    (next_same p capacity f s c (slice_get (slice_index_or p c []) (place_of s c)) h)
one_row p capacity fault.YoungestFirst s (Drain c) h = absurd cc
one_row p capacity fault.StaleShare s (GetM c a) h = absurd cc
one_row p capacity f s step h = refl

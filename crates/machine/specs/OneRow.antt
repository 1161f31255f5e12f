-- Which row of the table of steps each fault changes.
use Rattle.std.specs.Prelude.{◌≡◌, ℕ, Bool, true, false, List, [], Option, None, Some, slice_get, slice_index_or}
use Rattle.program.specs.declared.op.Op.{Op}
use Rattle.program.specs.declared.op.Op.TheVariants.{Ld, Fence, Swap, Add, Cas}
use Rattle.program.specs.declared.fault.Fault.{Fault}
use Rattle.program.specs.declared.fault.Fault.TheVariants.{NoBypass, YoungestFirst, OpenFence, StaleShare, EarlyRmw}
use Rattle.program.specs.declared.fault.Fault.TheVariants as fault
use Rattle.machine.specs.declared.step.Step.{Step}
use Rattle.machine.specs.declared.step.Step.TheVariants.{Exec, Drain, GetM}
use Rattle.machine.specs.State.{State, place_of}
use Rattle.machine.specs.Step.{step_result}

-- whether a fault changes the row of a step, whose core executes this operation next
abbrev pub changes : Fault → Step → Option Op → Bool
changes NoBypass (Exec c) (Some (Ld a)) = true
changes YoungestFirst (Drain c) op = true
changes OpenFence (Exec c) (Some Fence) = true
changes StaleShare (GetM c a) op = true
changes EarlyRmw (Exec c) (Some (Swap a v)) = true
changes EarlyRmw (Exec c) (Some (Add a v)) = true
changes EarlyRmw (Exec c) (Some (Cas a e v)) = true
changes f step op = false

-- the operation that a step executes, where it executes one and one is left
abbrev pub next_op : List (List Op) → State → Step → Option Op
next_op p s (Exec c) = slice_get (slice_index_or p c []) (place_of s c)
next_op p s step = None

-- a step whose row the fault leaves does what it does without fault
abbrev pub EveryFaultChangesOneRow : Type 0
EveryFaultChangesOneRow = (p : List (List Op)) (capacity : ℕ) (f : Fault) (s : State) (step : Step)
    → changes f step (next_op p s step) ≡ false
    → step_result p capacity f s step ≡ step_result p capacity fault.None s step

-- What threads that drive a machine give.
use Rattle.std.specs.Prelude.{◌≡◌, ℕ, ⊤}
use Rattle.program.specs.Parts.{Parts}
use Rattle.program.specs.declared.fault.Fault.TheVariants.{None}
use Rattle.live.specs.declared.error.LiveError.{LiveError}
use Rattle.live.specs.declared.error.LiveError.TheVariants.{Blocked, TraceFull, NoThread, Stranger}
use Rattle.live.specs.Trace.{Trace}

-- a machine without a fault, of this program and this capacity, that may take this many steps
pub record IsAsRequested (program : Parts) (capacity limit : ℕ) (t : Trace) : Type 0 where
  pub program_is : t.machine.program ≡ program
  pub capacity_is : t.machine.capacity ≡ capacity
  pub fault_is : t.machine.fault ≡ None
  pub limit_is : t.limit ≡ limit

-- what threads that were started left is not given
abbrev pub IsThreadError : LiveError → Type 0
IsThreadError NoThread = ⊤
IsThreadError Stranger = ⊤
IsThreadError e = ⊥

-- no machine was given, and not because of one step
abbrev pub IsDriveError : LiveError → Type 0
IsDriveError (Blocked b) = ⊥
IsDriveError TraceFull = ⊥
IsDriveError e = ⊤

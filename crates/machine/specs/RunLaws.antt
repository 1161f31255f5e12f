-- Laws of runs.
use Rattle.std.proofs.Common.{◌≡◌, ℕ, Bool, true, false, cond, Result, Ok, Err, List, [], ◌∷◌, ◌++◌, length, refl}
use Rattle.std.proofs.lemmas.Bool.{lt-ltb}
use Rattle.program.specs.declared.op.Op.{Op}
use Rattle.program.specs.declared.fault.Fault.{Fault}
use Rattle.machine.specs.declared.step.Step.{Step}
use Rattle.machine.specs.declared.step.Step.TheVariants.{Exec}
use Rattle.machine.specs.declared.blocked.Blocked.{Blocked}
use Rattle.machine.specs.State.{State}
use Rattle.machine.specs.Step.{exec, step_result, after, run, IsAt}

-- steps in two parts
pub run_append : (p : List (List Op)) (capacity : ℕ) (f : Fault) (s : State) (xs ys : List Step)
    → run p capacity f s (xs ++ ys) ≡ run p capacity f (run p capacity f s xs) ys
run_append p capacity f s [] ys = refl
run_append p capacity f s (x ∷ xs) ys = run_append p capacity f (after s (step_result p capacity f s x)) xs ys

-- the execution of a core's operation is a step
pub at_taken : (p : List (List Op)) (capacity : ℕ) (f : Fault) (s : State) (c : ℕ) (op : Op) (e : ℕ)
    → IsAt p s c op e → step_result p capacity f s (Exec c) ≡ exec capacity f s c e op
at_taken p capacity f s c op e at = rw (lt-ltb c (length p) at.core, at.operation, at.number) refl

-- a guarded step that is taken had its guard
pub guarded : (b : Bool) (r : Result State Blocked) (e : Blocked) (t : State) → cond b r (Err e) ≡ Ok t
    → (b ≡ true) × (r ≡ Ok t)
guarded true r e t h = (refl, h)
guarded false r e t h = absurd cc

-- A step from a reached state leads to one, and what is known of reached states.
use Rattle.std.proofs.Common.{◌≡◌, ℕ, Ok, List, [], ◌∷◌, ◌++◌, ap, subst, ◌∙◌}
use Rattle.program.specs.declared.op.Op.{Op}
use Rattle.program.specs.declared.fault.Fault.{Fault}
use Rattle.program.specs.declared.fault.Fault.TheVariants as fault
use Rattle.machine.specs.declared.step.Step.{Step}
use Rattle.machine.specs.declared.step.Step.TheVariants.{Exec}
use Rattle.machine.specs.State.{State, opening}
use Rattle.machine.specs.Configuration.{IsReached}
use Rattle.machine.specs.Step.{exec, step_result, after, IsAt}
use Rattle.machine.specs.RunLaws.{run_append, at_taken}
use Rattle.machine.proofs.InOrder.{IsInOrder}
use Rattle.machine.proofs.Complete.{run_in_order}
use Rattle.machine.proofs.Data.{IsData, run_data}

-- one step more
pub reached_step : {p : List (List Op)} {init : List ℕ} {capacity : ℕ} {f : Fault} {s t : State} (step : Step)
    → IsReached p init capacity f s → step_result p capacity f s step ≡ Ok t → IsReached p init capacity f t
reached_step {p} {init} {capacity} {f} {s} {t} step r took = record {
  steps = r.steps ++ step ∷ [];
  leads = run_append p capacity f (opening p init) r.steps (step ∷ [])
      ∙ (ap (λ (z : State). after z (step_result p capacity f z step)) r.leads ∙ ap (after s) took);
  operations = r.operations;
}

-- an execution leads on
pub reached_exec : {p : List (List Op)} {init : List ℕ} {capacity : ℕ} {f : Fault} {s t : State} {c : ℕ} {op : Op}
    {e : ℕ} → IsAt p s c op e → IsReached p init capacity f s → exec capacity f s c e op ≡ Ok t
    → IsReached p init capacity f t
reached_exec {p} {init} {capacity} {f} {s} {t} {c} {op} {e} at r took =
    reached_step (Exec c) r (at_taken p capacity f s c op e at ∙ took)

-- a state that is reached without fault is in order
pub reached_in_order : (p : List (List Op)) (init : List ℕ) (capacity : ℕ) (f : Fault) (s : State)
    → f ≡ fault.None → IsReached p init capacity f s → IsInOrder p s
reached_in_order p init capacity f s none r = subst (λ (z : State). IsInOrder p z) r.leads
    (rw none (run_in_order p init capacity r.steps r.operations))

-- a reached state has its data from executed writes, under every fault
pub reached_data : (p : List (List Op)) (init : List ℕ) (capacity : ℕ) (f : Fault) (s : State)
    → IsReached p init capacity f s → IsData p s
reached_data p init capacity f s r =
    subst (λ (z : State). IsData p z) r.leads (run_data p init capacity f r.steps r.operations)

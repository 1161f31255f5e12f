-- A trace stays one when a step is added, and a trace is a run.
use Rattle.std.proofs.Common.{◌≡◌, ℕ, Result, Ok, Err, List, [], ◌∷◌, ◌++◌, refl, ap, ◌∙◌}
use Rattle.program.specs.declared.op.Op.{Op}
use Rattle.program.specs.declared.fault.Fault.{Fault}
use Rattle.machine.specs.declared.step.Step.{Step}
use Rattle.machine.specs.declared.blocked.Blocked.{Blocked}
use Rattle.machine.specs.State.{State}
use Rattle.machine.specs.Step.{step_result, after, run}
use Rattle.machine.specs.Taken.{all_taken, begun, unless_blocked}
use Rattle.machine.specs.Configuration.{Configuration}

-- one state, found twice
same_state : (r : Result State Blocked) (s t : State) → r ≡ Ok s → r ≡ Ok t → s ≡ t
same_state r s t one two = cc

-- what follows a step that was taken
bound_more : (r : Result State Blocked) (f g : State → Result State Blocked) (t u : State)
    → ((v : State) → f v ≡ Ok t → g v ≡ Ok u) → unless_blocked r f ≡ Ok t → unless_blocked r g ≡ Ok u
bound_more (Ok v) f g t u next h = next v h
bound_more (Err b) f g t u next h = absurd (let clash : (let r : Result State Blocked = Err b in r) ≡ Ok t =
    h in cc (clash))

-- where what follows was reached, the step was taken
bound_after : (r : Result State Blocked) (f : State → Result State Blocked) (s t : State)
    → unless_blocked r f ≡ Ok t → f (after s r) ≡ Ok t
bound_after (Ok v) f s t h = h
bound_after (Err b) f s t h = absurd (let clash : (let r : Result State Blocked = Err b in r) ≡ Ok t = h in
    cc (clash))

module _ (p : List (List Op)) (capacity : ℕ) (fault : Fault) where
  -- steps that are taken, and then one more
  all_more : (s t u : State) (steps : List Step) (step : Step) → all_taken p capacity fault s steps ≡ Ok t
      → step_result p capacity fault t step ≡ Ok u → all_taken p capacity fault s (steps ++ step ∷ []) ≡ Ok u
  all_more s t u [] step led took =
      ap (λ (r : Result State Blocked). unless_blocked r (λ v. Ok v))
      (ap (λ (v : State). step_result p capacity fault v step) (same_state (Ok s) s t refl led) ∙ took)
  all_more s t u (x ∷ xs) step led took =
      bound_more (step_result p capacity fault s x) (λ v. all_taken p capacity fault v xs)
      (λ v. all_taken p capacity fault v (xs ++ step ∷ [])) t u
      (λ v h. all_more v t u xs step h took) led

  -- steps that are taken are a run
  pub taken_run : (s t : State) (steps : List Step) → all_taken p capacity fault s steps ≡ Ok t
      → run p capacity fault s steps ≡ t
  taken_run s t [] led = same_state (Ok s) s t refl led
  taken_run s t (x ∷ xs) led =
      taken_run (after s (step_result p capacity fault s x)) t xs
      (bound_after (step_result p capacity fault s x) (λ v. all_taken p capacity fault v xs) s t led)

-- the steps lead to old, and one step more leads to new
pub replay_more : (old new : Configuration) (steps : List Step) (step : Step)
    → all_taken old.program.cores old.capacity old.fault (begun old.program) steps ≡ Ok old.state
    → step_result old.program.cores old.capacity old.fault old.state step ≡ Ok new.state
    → new ≡ record old { state = new.state }
    → all_taken new.program.cores new.capacity new.fault (begun new.program) (steps ++ step ∷ [])
    ≡ Ok new.state
replay_more old new steps step replay took rest =
    ap (λ (h : Configuration). all_taken h.program.cores h.capacity h.fault (begun h.program)
    (steps ++ step ∷ [])) rest
    ∙ all_more old.program.cores old.capacity old.fault (begun old.program) old.state new.state steps step
    replay took

-- A machine that takes steps and writes them down, step by step.
use Rattle.std.proofs.Common.{◌≡◌, ◌+◌, ℕ, Result, Ok, Err, OnOk, List, [], ◌∷◌, ◌++◌, replicate}
use Rattle.std.proofs.Common.{sym, ap, ◌∙◌, append_assoc}
use Rattle.std.proofs.lemmas.List.{replicate_more}
use Rattle.program.specs.declared.op.Op.{Op}
use Rattle.recording.specs.declared.event.Event.{Event}
use Rattle.recording.specs.Execution.{Execution, core_of, event_at}
use Rattle.machine.specs.declared.step.Step.{Step}
use Rattle.machine.specs.State.{State}
use Rattle.machine.specs.Step.{run}
use Rattle.machine.specs.RunLaws.{run_append}
use Rattle.machine.specs.Configuration.{Configuration}
use Rattle.program_events.specs.NamedProgram.{program_of}
use Rattle.replay.specs.Steps.{executed_before, execute_to, perform, turn, order_steps, Replaying, with_steps}

-- more steps, and then more
pub more_steps : (r : Replaying) (xs ys : List Step) → with_steps (with_steps r xs) ys ≡ with_steps r
    (xs ++ ys)
more_steps r xs ys =
    ap (λ (t : State). let z : Replaying =
    record { machine = record r.machine { state = t }; steps = (r.steps ++ xs) ++ ys } in z)
    (sym (run_append r.machine.program.cores r.machine.capacity r.machine.fault r.machine.state xs ys))
    ∙ ap (λ (l : List Step). let z : Replaying =
    record { machine = (with_steps r (xs ++ ys)).machine; steps = l } in z) (append_assoc r.steps xs ys)

-- the same, for what is known of each
pub then_steps : (r s t : Replaying) (xs ys : List Step) → s ≡ with_steps r xs → t ≡ with_steps s ys
    → t ≡ with_steps r (xs ++ ys)
then_steps r s t xs ys first second = second
    ∙ (ap (λ (z : Replaying). with_steps z ys) first ∙ more_steps r xs ys)

-- what an answer brings with it
pub ok_then : {A B T E : Type 0} (r : Result T E) → (A → B) → OnOk r A → OnOk r B
ok_then (Ok x) f h = f h
ok_then (Err e) f h = tt

-- one step more of a kind
pub one_more : (r s t : Replaying) (x : Step) (i j : ℕ) → s ≡ with_steps r (replicate i x)
    → t ≡ with_steps s (x ∷ []) → i + 1 ≡ j → t ≡ with_steps r (replicate j x)
one_more r s t x i j first second next =
    then_steps r s t (replicate i x) (x ∷ []) first second ∙ ap (λ (l : List Step). with_steps r l)
    (replicate_more i x ∙ ap (λ (k : ℕ). replicate k x) next)

-- a core executes what comes first, and performs an event
pub turn_taken : (r s t : Replaying) (c e : ℕ) (ev : Event)
    → s ≡ with_steps r (execute_to r.machine.program.cores r.machine.state c (executed_before e ev))
    → t ≡ with_steps s (perform s.machine.state c ev)
    → t ≡ with_steps r (turn r.machine.program.cores r.machine.capacity r.machine.fault r.machine.state c e
    ev)
turn_taken r s t c e ev first second =
    let steps : List Step = execute_to r.machine.program.cores r.machine.state c (executed_before e ev) in
    then_steps r s t steps (perform (with_steps r steps).machine.state c ev) first
    (second ∙ ap (λ (z : Replaying). with_steps s (perform z.machine.state c ev)) first)

-- Orders

module _ (x : Execution) (h : Configuration) (old new : Replaying) (e : ℕ)
    (same : old.machine ≡ record h { state = old.machine.state }) (cores : h.program.cores ≡ program_of x)
    (took : new ≡ with_steps old (turn old.machine.program.cores old.machine.capacity old.machine.fault
    old.machine.state (core_of x e) e (event_at x e))) where
  -- the machine stays but for its state
  pub order_machine : new.machine ≡ record h { state = new.machine.state }
  order_machine =
      ap (λ (r : Replaying). record r.machine { state = new.machine.state }) took
      ∙ ap (λ (m : Configuration). record m { state = new.machine.state }) same

  -- the steps of the event, of that program
  steps_is : turn old.machine.program.cores old.machine.capacity old.machine.fault old.machine.state
      (core_of x e) e (event_at x e) ≡ turn (program_of x) h.capacity h.fault old.machine.state
      (core_of x e) e (event_at x e)
  steps_is =
      ap (λ (m : Configuration). turn m.program.cores m.capacity m.fault old.machine.state (core_of x e) e
      (event_at x e)) same
      ∙ ap (λ (p : List (List Op)). turn p h.capacity h.fault old.machine.state (core_of x e) e
      (event_at x e)) cores

  -- and the state after them
  state_is : new.machine.state ≡ run (program_of x) h.capacity h.fault old.machine.state
      (turn (program_of x) h.capacity h.fault old.machine.state (core_of x e) e (event_at x e))
  state_is =
      let steps : List Step = turn old.machine.program.cores old.machine.capacity old.machine.fault
      old.machine.state (core_of x e) e (event_at x e) in
      ap (λ (r : Replaying). r.machine.state) took
      ∙ (ap (λ (m : Configuration). run m.program.cores m.capacity m.fault old.machine.state steps) same
      ∙ (ap (λ (p : List (List Op)). run p h.capacity h.fault old.machine.state steps) cores
      ∙ ap (λ (l : List Step). run (program_of x) h.capacity h.fault old.machine.state l) steps_is))

  -- so what is to come is less by this event
  pub order_more : (rest : List ℕ) (all : List Step)
      → old.steps ++ order_steps x h.capacity h.fault old.machine.state (e ∷ rest) ≡ all
      → new.steps ++ order_steps x h.capacity h.fault new.machine.state rest ≡ all
  order_more rest all is =
      let steps : List Step = turn (program_of x) h.capacity h.fault old.machine.state (core_of x e) e
      (event_at x e) in
      ap (λ (l : List Step). l ++ order_steps x h.capacity h.fault new.machine.state rest)
      (ap (λ (r : Replaying). r.steps) took ∙ ap (λ (l : List Step). old.steps ++ l) steps_is)
      ∙ (ap (λ (t : State). (old.steps ++ steps) ++ order_steps x h.capacity h.fault t rest) state_is
      ∙ (append_assoc old.steps steps (order_steps x h.capacity h.fault
      (run (program_of x) h.capacity h.fault old.machine.state steps) rest) ∙ is))

-- A machine that makes moves.
use Rattle.std.proofs.Common.{◌≡◌, ◌<◌, ◌≤◌, ◌+◌, ◌∙◌, ◌⊎◌, ℕ, suc, Option, Some, None, List, [], ◌∷◌}
use Rattle.std.proofs.Common.{◌++◌, length, drop, take, arith, refl, sym, ap, subst}
use Rattle.std.specs.Prelude.{option_map}
use Rattle.std.specs.List.{All}
use Rattle.std.proofs.lemmas.List.{length-drop}
use Rattle.std.proofs.lemmas.List.Elements.{All-drop, All-take}
use Rattle.std.proofs.lemmas.Option.{get_or_from_slice_get, same_Some, slice_get_within}
use Rattle.program.specs.declared.op.Op.{Op}
use Rattle.program.specs.declared.op.Op.TheVariants.{St, Ld, Fence, Swap, Add, Cas}
use Rattle.program.specs.Parts.{Parts, IsProgram, IsWithin, addr_of, op_count}
use Rattle.recording.specs.Event.{read_address, written_address}
use Rattle.program.specs.declared.fault.Fault.TheVariants as faults
use Rattle.machine.specs.declared.step.Step.{Step}
use Rattle.machine.specs.Configuration.{IsAtEnd, recording_of}
use Rattle.program_events.specs.ProgramLaws.{has_address}
use Rattle.machine.specs.RunLaws.{run_append}
use Rattle.machine.specs.State.{State, first_event, opening, place_of}
use Rattle.program_events.specs.ProgramOf.{event_of}
use Rattle.machine.specs.Step.{run}
use Rattle.replay.specs.Steps.{Replaying, execute_to, perform, with_steps}
use Rattle.replay.proofs.WrittenSteps.{more_steps}
use Rattle.outcomes.specs.declared.moves.Move.{Move}
use Rattle.outcomes.specs.declared.moves.Move.TheVariants.{Exec, Drain}
use Rattle.situations.specs.declared.waiting.Waiting.{Waiting}
use Rattle.outcomes.specs.Follow.{Follows, HasComeTo}
use Rattle.outcomes.specs.Reachable.{outcome_in}
use Rattle.outcomes.specs.Situation.{IsEnd, beginning, moved, ops_of, stores_first}
use Rattle.situations.specs.Situation.{Situation, waiting}
use Rattle.situations.specs.Step.{stored_by_op}
use Rattle.situations.specs.Waiting.{oldest}
use Rattle.situations.specs.Situation as row
use Rattle.outcomes.specs.Witness.{IsRecordingOf, op_moved}
use Rattle.outcomes.proofs.Ends.{opening_followed}
use Rattle.outcomes.proofs.Machine.{move_made}
use Rattle.outcomes.proofs.Reached.{complete_there, core_few, fits, recorded_there}

-- Addresses

-- what holds of all operations of a list holds of its oldest store
oldest_op : (P : Op → Type 0) (l : List Op) (i : ℕ) (x : Waiting) → oldest stored_by_op i l ≡ Some x → All P l
    → P (St x.address x.value)
oldest_op P [] i x h all = absurd cc
oldest_op P (St a v ∷ l) i x h all =
    let one : Waiting = record { place = i; address = a; value = v } in
    let same : one ≡ x = same_Some one x h in
    subst (λ (z : Waiting). P (St z.address z.value)) same (all 0 Fence (omega arith))
oldest_op P (op ∷ l) i x h all = oldest_op P l (suc i) x h (λ k d inside. all (suc k) d (omega (arith, inside)))

-- the operation of a move has an address of the program
pub op_within : (n : ℕ) (p : List (List Op)) (r : Situation) (move : Move) (c : ℕ) (op : Op)
    → All (λ ops. All (IsWithin n) ops) p → c < length p → op_moved p r move c ≡ Some op → IsWithin n op
op_within n p r Exec c op all core is =
    let inside = slice_get_within (ops_of p c) (row.place_of r c) op is in
    subst (IsWithin n) (get_or_from_slice_get (ops_of p c) (row.place_of r c) op op is)
    (all c [] core (row.place_of r c) op inside)
op_within n p r Drain c op all core is = go (oldest stored_by_op (row.drained_of r c) (waiting p r c)) refl
  where
    go : (o : Option Waiting) → oldest stored_by_op (row.drained_of r c) (waiting p r c) ≡ o → IsWithin n op
    go None at = absurd (let clash : None ≡ Some op =
        sym (ap (option_map (λ (x : Waiting). St x.address x.value)) at) ∙ is in cc)
    go (Some x) at =
        let same : St x.address x.value ≡ op =
        same_Some (St x.address x.value) op
        (sym (ap (option_map (λ (w : Waiting). St w.address w.value)) at) ∙ is) in
        subst (IsWithin n) same (oldest_op (IsWithin n) (waiting p r c) (row.drained_of r c) x at
        (All-drop (IsWithin n) (row.drained_of r c) (take (row.place_of r c) (ops_of p c))
        (All-take (IsWithin n) (row.place_of r c) (ops_of p c) (all c [] core))))

-- its address
address_within : (n : ℕ) (op : Op) (a : ℕ) → IsWithin n op → addr_of op ≡ Some a → a < n
address_within n (St b v) a within is = rw (← same_Some b a is) within
address_within n (Ld b) a within is = rw (← same_Some b a is) within
address_within n Fence a within is = absurd cc
address_within n (Swap b v) a within is = rw (← same_Some b a is) within
address_within n (Add b v) a within is = rw (← same_Some b a is) within
address_within n (Cas b e v) a within is = rw (← same_Some b a is) within

-- so has the event that it makes
pub event_within : (n : ℕ) (op : Op) (d : ℕ × Option ℕ) → IsWithin n op → (a : ℕ)
    → (read_address (event_of op d) ≡ Some a) ⊎ (written_address (event_of op d) ≡ Some a) → a < n
event_within n op d within a uses = address_within n op a within ((has_address op d a).0 uses)

-- Places

-- no more stores come first than there are operations
stores_few : (ops : List Op) → stores_first ops ≤ length ops
stores_few [] = omega arith
stores_few (St a v ∷ ops) = omega (arith, stores_few ops)
stores_few (op ∷ ops) = omega arith

-- a core's place is within its operations
pub place_few : (p : Parts) (r : Situation) (x : Replaying) (c : ℕ) → HasComeTo p r x
    → row.place_of r c ≤ op_count p.cores
place_few p r x c come =
    let at = come.follows.cores c in
    omega (
      arith,
      at.place,
      at.within,
      stores_few (drop (place_of x.machine.state c) (ops_of p.cores c)),
      length-drop (place_of x.machine.state c) (ops_of p.cores c),
      core_few p.cores c,
    )

-- Moves

-- a machine of the program at its beginning
pub begun : (p : Parts) (x : Replaying) → x.machine.program ≡ p → x.machine.fault ≡ faults.None
    → x.machine.capacity ≡ op_count p.cores → x.machine.state ≡ opening p.cores p.init → x.steps ≡ []
    → HasComeTo p (beginning p) x
begun p x program fault capacity state steps = record {
  program = program;
  fault = fault;
  room = λ c. omega (arith, capacity, core_few p.cores c);
  reached = ap (run p.cores x.machine.capacity faults.None (opening p.cores p.init)) steps ∙ sym state;
  follows = subst (λ (s : State). Follows p.cores (length p.init) s (beginning p)) (sym state)
      (opening_followed p p.cores p.init refl refl refl);
}

module _ (p : Parts) (lawful : IsProgram p) where
  -- a machine that has come to a situation makes a move
  pub come_moved : (r s : Situation) (x y z : Replaying) (move : Move) (c e : ℕ) (op : Op) → HasComeTo p r x
      → c < length p.cores → op_moved p.cores r move c ≡ Some op → moved p.cores r move c ≡ Some s
      → e ≡ first_event p.cores c + row.place_of r c
      → y ≡ with_steps x (execute_to x.machine.program.cores x.machine.state c e)
      → z ≡ with_steps y (perform y.machine.state c (event_of op (0, None))) → HasComeTo p s z
  come_moved r s x y z move c e op come core at is number before then =
      let capacity : ℕ = x.machine.capacity in
      let old : State = x.machine.state in
      let plain : Replaying = record {
        machine = record { program = p; capacity = capacity; fault = faults.None; state = old };
        steps = x.steps;
      } in
      let same : x ≡ plain = λ i. record {
        machine = record { program = come.program i; capacity = capacity; fault = come.fault i; state = old };
        steps = x.steps;
      } in
      let first : List Step = execute_to p.cores old c (first_event p.cores c + row.place_of r c) in
      let second : List Step =
      perform (run p.cores capacity faults.None old first) c (event_of op (0, None)) in
      let mid : y ≡ with_steps plain first =
      before ∙ (ap (λ (k : ℕ). with_steps x (execute_to x.machine.program.cores x.machine.state c k)) number
      ∙ ap (λ (w : Replaying). with_steps w (execute_to w.machine.program.cores w.machine.state c
      (first_event p.cores c + row.place_of r c))) same) in
      let end : z ≡ with_steps plain (first ++ second) =
      then ∙ (ap (λ (w : Replaying). with_steps w (perform w.machine.state c (event_of op (0, None)))) mid
      ∙ more_steps plain first second) in
      let made = move_made p.cores p.init capacity (fits p lawful) come.room old r s move c op
      (record { steps = x.steps; leads = come.reached }) come.follows core at is in
      subst (HasComeTo p s) (sym end) (record {
        program = refl;
        fault = refl;
        room = come.room;
        reached = run_append p.cores capacity faults.None (opening p.cores p.init) x.steps (first ++ second)
            ∙ ap (λ (t : State). run p.cores capacity faults.None t (first ++ second)) come.reached;
        follows = subst (λ (t : State). Follows p.cores (length p.init) t s) (sym made.leads) made.follows;
      })

  -- at its end it is complete
  pub come_complete : (r : Situation) (x : Replaying) → HasComeTo p r x → IsEnd p.cores r → IsAtEnd x.machine
  come_complete r x come end =
      let there = complete_there p lawful x.machine.capacity come.room x.machine.state
      (record { steps = x.steps; leads = come.reached }) r come.follows end in
      rw come.program there

  -- and its recording is one of the outcome
  pub come_recorded : (r : Situation) (x : Replaying) → HasComeTo p r x → IsEnd p.cores r
      → IsRecordingOf p (outcome_in r) (recording_of x.machine)
  come_recorded r x come end =
      let there = recorded_there p lawful x.machine.capacity come.room x.machine.state
      (record { steps = x.steps; leads = come.reached }) r come.follows end in
      rw come.program there

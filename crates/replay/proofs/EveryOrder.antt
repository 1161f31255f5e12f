-- Each TSO order of a recording is replayed.
use Rattle.std.proofs.Common.{◌≡◌, ◌<◌, ◌≤◌, ◌+◌, ◌⊎◌, inl, inr, ℕ, zero, suc, Some, List, [], ◌∷◌, map, length}
use Rattle.std.proofs.Common.{get_or, arith, refl, sym, ap, subst, ◌∙◌, true, nat_lt, ltb-true, Result, Ok}
use Rattle.std.specs.List.{All, count_by}
use Rattle.std.proofs.Math.Nat.{le-max_left, le-max_right}
use Rattle.std.proofs.lemmas.List.{get_or_default, get_or_past}
use Rattle.std.proofs.lemmas.List.Sums.{sum_by-le}
use Rattle.std.proofs.lemmas.Bool.{cases_lt, and_parts}
use Rattle.program.specs.declared.op.Op.{Op}
use Rattle.program.specs.declared.op.Op.TheVariants.{Fence}
use Rattle.program.specs.declared.name.Name.{Name}
use Rattle.program.specs.Parts.{Parts, IsWithin, IsProgram, parts_of}
use Rattle.recording.specs.declared.event.Event.{Event}
use Rattle.recording.specs.Event.{read_address, written_address, value_read, source, is_plain_store}
use Rattle.recording.specs.Execution.{Execution, placed_from, event_at}
use Rattle.recording.specs.Order.{times}
use Rattle.recording.specs.Recording.{IsShortRecording}
use Rattle.recording.specs.Tso.{IsTsoOrder, IsWellFormed}
use Rattle.recording.specs.OrderLaws.{times_here, times_append}
use Rattle.write_buffer.specs.declared.entry.Entry.{Entry}
use Rattle.program.specs.declared.fault.Fault.TheVariants as fault
use Rattle.machine.specs.declared.step.Step.{Step}
use Rattle.machine.specs.Step.{step_result, after, run, has}
use Rattle.machine.specs.State.{State, place_of, buffer_of, first_event, opening, recorded, IsComplete}
use Rattle.program_events.specs.NamedProgram.{op_of, program_of, named_program}
use Rattle.replay.specs.Steps.{most_stores, replay_steps}
use Rattle.replay.specs.OrderReplay.{IsReplay, EveryOrderIsReplayed, led_to, MakesExactlyTso}
use Rattle.program.specs.AddressNames.{address_names}
use Rattle.program.specs.AddressNameLaws.{names_count}
use Rattle.machine.specs.declared.blocked.Blocked.{Blocked}
use Rattle.machine.specs.declared.step.Step.TheVariants.{Exec, Drain, GetS, GetM, Put}
use Rattle.machine.specs.Script.{IsStepOf}
use Rattle.machine.specs.Orderly.{EveryRunIsTso, EveryRunIsWellFormed, IsOrderly, EveryStateIsOrderly}
use Rattle.program_events.specs.Operations.{placed_op, is_st}
use Rattle.std.proofs.lemmas.List.Elements.{All-nil, All-cons}
use Rattle.recording.specs.PlacedLaws.{placed_total, placed_at}
use Rattle.machine.proofs.PlaceLemmas.{places_within}
use Rattle.machine.specs.RunLaws.{guarded}
use Rattle.program_events.proofs.NamedProgram.{named_is_program}
use Rattle.program_events.proofs.MadeAgain.{placed_is, count_same, made_again}
use Rattle.replay.proofs.Made.{recorded_made}
use Rattle.replay.proofs.Determined.{determined}
use Rattle.replay.proofs.OrderlyRuns.{StaysOrderly, begun_going, goes_further, stores_same, waiting, waits_once}
use Rattle.replay.proofs.StepLists.{AreTaken, StepsLead, all_of, goes_more}
use Rattle.replay.proofs.Orders.{order_run}
use Rattle.replay.proofs.Kept.{run_keeps, op_within, all_within, made_fits}

-- Room for the stores of a core

-- none has more than the greatest number
stores_most : (cores : List (List Event)) (c : ℕ)
    → count_by is_st (get_or (map (λ es. map op_of es) cores) c []) ≤ most_stores cores
stores_most [] c = omega (arith, stores_same [])
stores_most (es ∷ rest) zero =
    omega (arith, stores_same es, le-max_left (count_by is_plain_store es) (most_stores rest))
stores_most (es ∷ rest) (suc c) =
    omega (arith, stores_most rest c, le-max_right (count_by is_plain_store es) (most_stores rest))

-- The addresses of a recording's operations

-- the operations of a recording have addresses with write lists
recording_fits : (x : Execution) → IsShortRecording x
    → All (λ ops. All (IsWithin (length x.write_lists)) ops) (program_of x)
recording_fits x r =
    all_within (program_of x) (length x.write_lists) (λ e.
    let ev : Event = event_at x e in
    subst (λ (z : ℕ × Op). IsWithin (length x.write_lists) z.1) (sym (placed_is x e))
    (op_within (length x.write_lists) (op_of ev) (value_read ev, source ev) (λ a uses. r.within.addresses e a
    (subst (λ (z : Event). (read_address z ≡ Some a) ⊎ (written_address z ≡ Some a)) (made_again ev) uses))))

-- The end

module _ (x : Execution) (m : List ℕ) (tso : IsTsoOrder x m) (n : ℕ) (t : State)
    (f : IsOrderly (program_of x) n t) (whole : t.performed ≡ m) where
  -- each event is performed
  each : (e : ℕ) → e < length (placed_from 0 (program_of x)) → times t.performed e ≡ 1
  each e event = ap (λ (l : List ℕ). times l e) whole ∙ tso.total.once e (omega (arith, event, count_same x))

  -- each core has come to its end
  all_executed : (c : ℕ) → c < length (program_of x) → place_of t c ≡ length (get_or (program_of x) c [])
  all_executed c core = elim (cases_lt (place_of t c) (length (get_or (program_of x) c []))) [
    | inr done ↦ omega (arith, done, f.within c)
    | inl left ↦
        let at = placed_at 0 (program_of x) c (place_of t c) Fence left in
        let e : ℕ = first_event (program_of x) c + place_of t c in
        let own : (placed_op (program_of x) e).0 ≡ c = ap (λ (z : ℕ × Op). z.0) at.0 ∙ omega arith in
        let done = f.executed 0 e (omega (
          arith,
          each e at.1,
          times_append t.performed (map (λ (y : Entry). y.event) (buffer_of t 0)) e,
        )) in
        absurd (omega (arith, subst (λ (d : ℕ). e < first_event (program_of x) d + place_of t d) own done.1))
  ]

  -- no store waits
  all_drained : (c : ℕ) → buffer_of t c ≡ []
  all_drained c = go (buffer_of t c) refl
    where
      go : (b : List Entry) → buffer_of t c ≡ b → buffer_of t c ≡ []
      go [] is = is
      go (y ∷ ys) is =
          let there : 0 < times (waiting t c) y.event =
          rw is (omega (arith, times_here (map (λ (z : Entry). z.event) ys) y.event y.event refl)) in
          let done = f.executed c y.event (omega
          (arith, there, times_append t.performed (waiting t c) y.event)) in
          absurd (omega (arith, there, each y.event done.0, waits_once (program_of x) n t f c y.event there))

  -- so the run is complete
  ended : IsComplete (program_of x) t
  ended c = elim (cases_lt c (length (program_of x))) [
    | inl core ↦ (all_executed c core, all_drained c)
    | inr past ↦ (
      get_or_past t.places c 0 (omega (arith, past, f.places))
          ∙ ap (λ (ops : List Op). length ops) (sym (get_or_past (program_of x) c [] past)),
      all_drained c,
    )
  ]

  -- and made this recording
  recorded_it : IsShortRecording x → n ≡ length x.write_lists → t.initial ≡ x.initial
      → IsWellFormed (recorded (program_of x) t) → IsTsoOrder (recorded (program_of x) t) t.performed
      → recorded (program_of x) t ≡ x
  recorded_it r n_is initial well order =
      determined x (recorded (program_of x) t) m (recorded_made x t (f.lists ∙ n_is) initial) r.well_formed
      well tso
      (subst (λ (l : List ℕ). IsTsoOrder (recorded (program_of x) t) l) whole order)

-- a core and an address that are there
line_within : (q : Parts) (s : State) (c a : ℕ) → length s.caches.blocks ≡ length q.names
    → has q.cores s c a ≡ true → (c < length q.cores) × (a < length q.names)
line_within q s c a large there =
    let both = and_parts (nat_lt c (length q.cores)) (nat_lt a (length s.caches.blocks)) there in
    (ltb-true c (length q.cores) both.0, omega (arith, ltb-true a (length s.caches.blocks) both.1, large))

-- a step that is taken has a core and an address of the program
step_within : (q : Parts) (capacity : ℕ) (s t : State) (step : Step) → length s.caches.blocks ≡ length q.names
    → step_result q.cores capacity fault.None s step ≡ Ok t → IsStepOf q step
step_within q capacity s t (Exec c) large took = ltb-true c (length q.cores) (guarded _ _ _ t took).0
step_within q capacity s t (Drain c) large took = ltb-true c (length q.cores) (guarded _ _ _ t took).0
step_within q capacity s t (GetS c a) large took = line_within q s c a large (guarded _ _ _ t took).0
step_within q capacity s t (GetM c a) large took = line_within q s c a large (guarded _ _ _ t took).0
step_within q capacity s t (Put c a) large took = line_within q s c a large (guarded _ _ _ t took).0

-- so have all
steps_within : (q : Parts) (capacity : ℕ) (steps : List Step) (s : State)
    → StaysOrderly q.cores (length q.names) capacity s → AreTaken q.cores capacity s steps → All (IsStepOf q) steps
steps_within q capacity [] s f h = All-nil (IsStepOf q)
steps_within q capacity (step ∷ steps) s f h =
    let large : length s.caches.blocks ≡ length q.names = (f.on []).blocks in
    let rest : AreTaken q.cores capacity h.0.0 steps =
    subst (λ (r : Result State Blocked). AreTaken q.cores capacity (after s r) steps) h.0.1 h.1 in
    All-cons (IsStepOf q) step steps (step_within q capacity s h.0.0 step large h.0.1)
    (steps_within q capacity steps h.0.0 (goes_further q.cores (length q.names) capacity s h.0.0 step f h.0.1)
    rest)

-- what the machine's laws say of every run without fault
pub record Laws : Type 0 where
  pub tso : (p : List (List Op)) (init : List ℕ) (capacity : ℕ) (steps : List Step)
      → EveryRunIsTso p init capacity steps
  pub well_formed : (p : List (List Op)) (init : List ℕ) (capacity : ℕ) (steps : List Step)
      → EveryRunIsWellFormed p init capacity fault.None steps
  pub orderly : (p : List (List Op)) (init : List ℕ) (capacity : ℕ) (steps : List Step)
      → EveryStateIsOrderly p init capacity steps

module _ (law : Laws) where
  -- the steps replay the order, on a lawful program of this many addresses
  steps_replay : (x : Execution) (m : List ℕ) (capacity : ℕ) (names : List Name)
      → length names ≡ length x.write_lists → IsProgram (parts_of names (program_of x) x.initial)
      → IsShortRecording x → IsTsoOrder x m → most_stores x.cores ≤ capacity
      → IsReplay x m (parts_of names (program_of x) x.initial) capacity (replay_steps x m)
  steps_replay x m capacity names named lawful r tso room =
      let p : List (List Op) = program_of x in
      let init : List ℕ = x.initial in
      let n : ℕ = length init in
      let steps : List Step = replay_steps x m in
      let fits : All (λ ops. All (IsWithin n) ops) p =
      subst (λ (k : ℕ). All (λ ops. All (IsWithin k) ops) p) (sym r.within.initial) (recording_fits x r) in
      let ran = order_run x m tso n (most_stores x.cores) (stores_most x.cores) m (opening p init)
      (begun_going p init (most_stores x.cores) (law.orderly p init (most_stores x.cores)) fits) refl in
      let t : State = ran.0 in
      let f : IsOrderly p n t = ran.1.fits.on [] in
      let goes : StepsLead p capacity (opening p init) steps t =
      goes_more p (most_stores x.cores) capacity room steps (opening p init) t ran.1.goes in
      let end : IsComplete p t = ended x m tso n t f ran.1.performed in
      let there : IsComplete p (run p capacity fault.None (opening p init) steps) =
      subst (λ (z : State). IsComplete p z) (sym goes.1) end in
      let order : IsTsoOrder (recorded p t) t.performed =
      rw (← goes.1) (law.tso p init capacity steps fits there) in
      let well : IsWellFormed (recorded p t) =
      rw (← goes.1) (law.well_formed p init capacity steps fits there) in
      let kept : t.initial ≡ init = ap (λ (z : State). z.initial) (sym goes.1)
      ∙ (run_keeps p capacity fault.None (opening p init) steps).0 in
      record {
        lawful = lawful;
        taken = all_of p capacity steps (opening p init) t goes.0 goes.1
            ∙ ap (λ (z : State). Ok z) (sym goes.1);
        complete = subst (λ (z : State). IsComplete p z) (sym goes.1) end;
        performed = ap (λ (z : State). z.performed) goes.1 ∙ ran.1.performed;
        recording = ap (λ (z : State). recorded p z) goes.1
            ∙ recorded_it x m tso n t f ran.1.performed r r.within.initial kept well order;
        within = steps_within (parts_of names p init) capacity steps (opening p init)
            (subst (λ (k : ℕ). StaysOrderly p k capacity (opening p init)) (r.within.initial ∙ sym named)
            (begun_going p init capacity (law.orderly p init capacity) fits)) goes.0;
        few = omega (
          arith,
          ran.1.few,
          f.counted,
          ap (λ (l : List ℕ). length l) ran.1.performed,
          sum_by-le (λ (b : List Entry). length b) 0 t.buffers (λ c d inside. omega (
            arith,
            ap (λ (b : List Entry). length b) (get_or_default t.buffers c d [] inside
                ∙ all_drained x m tso n t f ran.1.performed c),
          )),
          places_within t.places p f.places f.within,
          placed_total 0 p,
          count_same x,
        );
      }

  -- each TSO order of a replayable recording is replayed
  pub every_order_is_replayed : (x : Execution) (m : List ℕ) (capacity : ℕ)
      → EveryOrderIsReplayed x m capacity
  every_order_is_replayed x m capacity of =
      steps_replay x m capacity (address_names (length x.write_lists)) (names_count (length x.write_lists))
      (named_is_program x of.recording of.numbered of.small.0 of.small.1) of.recording

  -- the machine makes exactly the replayable recordings that have a TSO order
  pub makes_exactly_tso : (x : Execution) (capacity : ℕ) → MakesExactlyTso x capacity
  makes_exactly_tso x capacity of room = (
    λ made.
        let order : List ℕ = (led_to made.0 capacity made.1).performed in
        let fits = made_fits made.0 capacity made.1 x made.4 of.recording in (
          order,
          rw (← made.4) (law.tso made.0.cores made.0.init capacity made.1 fits made.3),
        ),
    λ allowed.
        let replay = every_order_is_replayed x allowed.0 capacity of allowed.1 room in
        (named_program x, replay_steps x allowed.0, replay.lawful, replay.complete, replay.recording),
  )

-- The events of a TSO order take their turns, one after another.
use Rattle.std.proofs.Common.{◌≡◌, ◌<◌, ◌≤◌, ◌+◌, ◌-◌, ◌*◌, ℕ, true, List, [], ◌∷◌, ◌++◌, length, get_or, replicate}
use Rattle.std.proofs.Common.{arith, refl, sym, ap, ◌∙◌, length-append, append_assoc, append-nil}
use Rattle.std.specs.List.{sum, count_by}
use Rattle.std.proofs.lemmas.List.{length-replicate}
use Rattle.program.specs.declared.op.Op.{Op}
use Rattle.recording.specs.declared.event.Event.{Event}
use Rattle.recording.specs.declared.event.Event.TheVariants.{L, S, R, C, F}
use Rattle.recording.specs.Event.{is_plain_store}
use Rattle.recording.specs.Execution.{Execution, event_at, core_of}
use Rattle.recording.specs.Tso.{IsTsoOrder}
use Rattle.program.specs.declared.fault.Fault.TheVariants as fault
use Rattle.machine.specs.declared.step.Step.{Step}
use Rattle.machine.specs.declared.step.Step.TheVariants.{Exec}
use Rattle.machine.specs.State.{State, place_of, first_event}
use Rattle.program_events.specs.NamedProgram.{program_of}
use Rattle.replay.specs.Steps.{executed_before, perform, turn, order_steps}
use Rattle.program_events.specs.Operations.{is_st}
use Rattle.replay.proofs.OrderlyRuns.{StaysOrderly}
use Rattle.replay.proofs.StepLists.{StepsLead, goes_on, HasStored}
use Rattle.replay.proofs.Turns.{IsTurn, caught_up, fence_turn, rmw_turn, cas_turn, load_turn, drain_turn}

-- at most the event itself is executed before it is performed
before_few : (e : ℕ) (ev : Event) → executed_before e ev ≤ e + 1
before_few e (S a w) = omega arith
before_few e ev = omega arith

-- and then it is a plain store
before_store : (e : ℕ) (ev : Event) → e < executed_before e ev → is_plain_store ev ≡ true
before_store e (S a w) h = refl
before_store e ev h = absurd (omega (arith, h))

-- core c executes stores before its turn
turn_after : (p : List (List Op)) (n capacity : ℕ) (s u t : State) (c j e : ℕ) (steps : List Step)
    → StepsLead p capacity s (replicate j (Exec c)) u → HasStored p n capacity s u c j
    → IsTurn p n capacity u steps e t → IsTurn p n capacity s (replicate j (Exec c) ++ steps) e t
turn_after p n capacity s u t c j e steps goes stored took = record {
  goes = goes_on p capacity s u t (replicate j (Exec c)) steps goes took.goes;
  fits = took.fits;
  performed = took.performed ∙ ap (λ (l : List ℕ). l ++ e ∷ []) stored.performed;
  few = omega (
    arith,
    took.few,
    stored.sum,
    length-append (replicate j (Exec c)) steps,
    length-replicate j
        (Exec c),
  );
}

module _ (x : Execution) (m : List ℕ) (tso : IsTsoOrder x m) (n capacity : ℕ)
    (room : (c : ℕ) → count_by is_st (get_or (program_of x) c []) ≤ capacity) where
  -- an event takes its turn once its core has executed what comes first
  perform_turn : (s : State) (f : StaysOrderly (program_of x) n capacity s) (e : ℕ) (rest : List ℕ)
      (split : m ≡ s.performed ++ e ∷ rest) → (ev : Event) → event_at x e ≡ ev
      → executed_before e ev ≤ first_event (program_of x) (core_of x e) + place_of s (core_of x e)
      → (t : State) × IsTurn (program_of x) n capacity s (perform s (core_of x e) ev) e t
  perform_turn s f e rest split (S a w) is ready = drain_turn x m tso n capacity room s f e rest split a w is
      (omega (arith, ready))
  perform_turn s f e rest split (L a r o) is ready =
      load_turn x m tso n capacity room s f e rest split ready (ap is_plain_store is) a r o is
  perform_turn s f e rest split (R a r o w) is ready =
      rmw_turn x m tso n capacity room s f e rest split ready (ap is_plain_store is) a r w o is
  perform_turn s f e rest split (C a r o) is ready =
      cas_turn x m tso n capacity room s f e rest split ready (ap is_plain_store is) a r o is
  perform_turn s f e rest split F is ready =
      fence_turn x m tso n capacity room s f e rest split ready (ap is_plain_store is) is

  -- each event takes its turn
  event_turn : (s : State) (f : StaysOrderly (program_of x) n capacity s) (e : ℕ) (rest : List ℕ)
      (split : m ≡ s.performed ++ e ∷ rest)
      → (t : State) × IsTurn (program_of x) n capacity s
      (turn (program_of x) capacity fault.None s (core_of x e) e (event_at x e)) e t
  event_turn s f e rest split =
      let p : List (List Op) = program_of x in
      let c : ℕ = core_of x e in
      let far : ℕ = executed_before e (event_at x e) in
      let ran = caught_up x m tso n capacity room s f e rest split far (before_few e (event_at x e))
      (before_store e (event_at x e)) in
      let later : m ≡ ran.0.performed ++ e ∷ rest = split ∙ ap (λ (l : List ℕ). l ++ e ∷ rest)
      (sym ran.2.performed) in
      let took = perform_turn ran.0 ran.2.fits e rest later (event_at x e) refl
      (omega (arith, ran.2.place)) in (
        took.0,
        rw ran.1.1 (turn_after p n capacity s ran.0 took.0 c (far - (first_event p c + place_of s c)) e
            (perform ran.0 c (event_at x e)) ran.1 ran.2 took.1),
      )

  -- the steps lead from s to t, which has performed the whole order
  pub record IsRun (s : State) (rest : List ℕ) (t : State) : Type 0 where
    pub goes : StepsLead (program_of x) capacity s (order_steps x capacity fault.None s rest) t
    pub fits : StaysOrderly (program_of x) n capacity t
    pub performed : t.performed ≡ m
    pub few : length (order_steps x capacity fault.None s rest) + sum s.places ≤ sum t.places + 2 * length
        rest

  -- so does the order
  pub order_run : (rest : List ℕ) (s : State) → StaysOrderly (program_of x) n capacity s → m ≡ s.performed ++ rest
      → (t : State) × IsRun s rest t
  order_run [] s f split = (
    s,
    record {
      goes = (tt, refl);
      fits = f;
      performed =
          sym (split ∙ append-nil s.performed);
      few = omega arith;
    },
  )
  order_run (e ∷ rest) s f split =
      let took = event_turn s f e rest split in
      let later : m ≡ took.0.performed ++ rest = split
      ∙ (sym (append_assoc s.performed (e ∷ []) rest) ∙ ap (λ (l : List ℕ). l ++ rest)
      (sym took.1.performed)) in
      let ran = order_run rest took.0 took.1.fits later in
      let front : List Step = turn (program_of x) capacity fault.None s (core_of x e) e (event_at x e) in
      let back : List Step = order_steps x capacity fault.None took.0 rest in
      let same : front ++ back ≡ order_steps x capacity fault.None s (e ∷ rest) =
      ap (λ (z : State). front ++ order_steps x capacity fault.None z rest) (sym took.1.goes.1) in (
        ran.0,
        record {
          goes = rw (← same) (goes_on (program_of x) capacity s took.0 ran.0 front back took.1.goes ran.1.goes);
          fits = ran.1.fits;
          performed = ran.1.performed;
          few = omega (
            arith,
            took.1.few,
            ran.1.few,
            length-append front back,
            ap (λ (l : List Step). length l) same,
          );
        },
      )

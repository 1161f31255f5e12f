-- Whatever moves lead to, the machine does.
use Rattle.std.proofs.Common.{◌≡◌, ◌<◌, ◌≤◌, ◌+◌, ◌==◌, inl, inr, ℕ, zero, suc, Bool, true, false, cond, Option}
use Rattle.std.proofs.Common.{Some, None, Result, Ok, Err, List, [], ◌∷◌, ◌++◌, length, get_or, slice_get}
use Rattle.std.proofs.Common.{◌-◌, option_map, replicate, drop, arith, refl, sym, ap, subst, ◌∙◌, get_or-set_same}
use Rattle.std.specs.List.{All}
use Rattle.std.proofs.lemmas.Bool.{cases_lt, lt-ltb}
use Rattle.std.proofs.lemmas.List.{set-get_or}
use Rattle.std.proofs.lemmas.Option.{same_Some, slice_get-get_or, slice_get_within, get_or_from_slice_get}
use Rattle.program.specs.declared.op.Op.{Op}
use Rattle.program.specs.declared.op.Op.TheVariants.{St, Ld, Fence, Swap, Add, Cas}
use Rattle.program.specs.Parts.{IsWithin}
use Rattle.recording.specs.PlacedLaws.{placed_at}
use Rattle.recording.specs.declared.event.Event.TheVariants.{R, C}
use Rattle.recording.specs.Event.{written_address}
use Rattle.write_buffer.specs.declared.entry.Entry.{Entry}
use Rattle.write_buffer.specs.Buffer.{youngest}
use Rattle.moesi.specs.Lines.{is_valid, is_exclusive}
use Rattle.moesi.specs.State as moesi
use Rattle.program.specs.declared.fault.Fault.TheVariants as fault
use Rattle.machine.specs.declared.step.Step.{Step}
use Rattle.machine.specs.declared.step.Step.TheVariants as steps
use Rattle.machine.specs.declared.blocked.Blocked.{Blocked}
use Rattle.machine.specs.declared.blocked.Blocked.TheVariants.{B2, B3, B4, B5, B7, B8}
use Rattle.machine.specs.Faults.{without, may_rmw, may_fence}
use Rattle.machine.specs.State.{State, place_of, buffer_of, line_copy, first_event, opening}
use Rattle.program_events.specs.ProgramOf.{event_of}
use Rattle.machine.specs.Step.{advanced, performed, with_read, written, with_buffer, with_caches, exec, step_result}
use Rattle.machine.specs.Step.{after, run, or_blocked, looked_up, rmw_value, read_modify_written, read_unmodified}
use Rattle.machine.specs.Step.{drained, drained_at}
use Rattle.program_events.specs.Operations.{is_st, is_ld, op_reads}
use Rattle.machine.specs.Orderly.{AreStores, IsOrderly}
use Rattle.machine.specs.RunLaws.{run_append, at_taken, guarded}
use Rattle.machine.proofs.Cached.{exclusive_read}
use Rattle.machine.proofs.Complete.{run_in_order}
use Rattle.machine.proofs.Fitting.{every_state_is_orderly}
use Rattle.machine.proofs.InOrder.{IsInOrder}
use Rattle.machine.proofs.Rows.{IsRmw, IsLook, stored_state, loaded_state, rmw_state, allowed_ok, swap_is}
use Rattle.machine.proofs.DrainEvents.{drained_state}
use Rattle.machine.proofs.ExecuteEvents.{IsNext, next_placed, next_event}
use Rattle.replay.specs.Steps.{execute_to, get_to_read, get_to_write, perform}
use Rattle.replay.proofs.OrderlyRuns.{StaysOrderly}
use Rattle.replay.proofs.StepLists.{StepsLead, is_at, fetch_read, fetch_write, write_made}
use Rattle.outcomes.specs.declared.moves.Move.{Move}
use Rattle.outcomes.specs.declared.moves.Move.TheVariants.{Exec, Drain}
use Rattle.outcomes.specs.Situation.{stores_first, ops_of, may_go, executed_next, moved, drained_by}
use Rattle.situations.specs.Situation.{Situation, waiting}
use Rattle.situations.specs.Step.{stored_by_op}
use Rattle.situations.specs.Waiting.{between, none_waits, oldest}
use Rattle.outcomes.specs.Reachable.{Leads, here, further}
use Rattle.situations.specs.Situation as row
use Rattle.outcomes.specs.Witness.{op_moved}
use Rattle.situations.specs.declared.waiting.Waiting.{Waiting}
use Rattle.outcomes.specs.Follow.{entries, Follows}
use Rattle.situations.proofs.Ranges.{length_between}
use Rattle.outcomes.proofs.Stores.{found_oldest, entries_few, no_entries, none_found, a_store, store_stands}
use Rattle.outcomes.proofs.Follow.{follow_store}
use Rattle.outcomes.proofs.Grown.{moved_past}
use Rattle.outcomes.proofs.Turns.{beside, look_turn, rmw_turn, drain_turn, transact_turn}

-- a guarded answer that is there had its guard
some_if : (q : Bool) (x y : Situation) → cond q (Some x) None ≡ Some y → q ≡ true
some_if true x y h = refl
some_if false x y h = absurd cc

module _ (cs : List (List Op)) (init : List ℕ) (capacity : ℕ)
    (fits : All (λ ops. All (IsWithin (length init)) ops) cs)
    (room : (c : ℕ) → length (get_or cs c []) ≤ capacity) where
  -- steps lead to the state
  pub record IsRun (s : State) : Type 0 where
    pub steps : List Step
    pub leads : run cs capacity fault.None (opening cs init) steps ≡ s

  -- which is in order
  pub in_order : (s : State) → IsRun s → IsInOrder cs s
  in_order s h = subst (IsInOrder cs) h.leads (run_in_order cs init capacity h.steps fits)

  -- and stays orderly
  stays : (s : State) → IsRun s → StaysOrderly cs (length init) capacity s
  stays s h = record {
    on = λ more. subst (λ (z : State). IsOrderly cs (length init) z)
        (run_append cs capacity fault.None (opening cs init) h.steps more
        ∙ ap (λ (z : State). run cs capacity fault.None z more) h.leads)
        (every_state_is_orderly cs init capacity (h.steps ++ more) fits);
  }

  -- more steps lead on
  steps_run : (s t : State) (more : List Step) → IsRun s → run cs capacity fault.None s more ≡ t → IsRun t
  steps_run s t more h to = record {
    steps = h.steps ++ more;
    leads = run_append cs capacity fault.None (opening cs init) h.steps more
        ∙ (ap (λ (z : State). run cs capacity fault.None z more) h.leads ∙ to);
  }

  -- so does a step that is taken
  step_run : (s t : State) (step : Step) → IsRun s → step_result cs capacity fault.None s step ≡ Ok t → IsRun t
  step_run s t step h took = steps_run s t (step ∷ []) h (ap (after s) took)

  -- a state of the machine says the same as the situation
  pub record IsSeen (r : Situation) : Type 0 where
    pub state : State
    pub is_run : IsRun state
    pub follows : Follows cs (length init) state r

  -- steps lead on from a state to one that says the same as the situation
  pub record IsMade (s : State) (steps : List Step) (q : Situation) : Type 0 where
    pub state : State
    pub leads : run cs capacity fault.None s steps ≡ state
    pub follows : Follows cs (length init) state q

  -- after other steps
  made_after : (s t : State) (xs ys : List Step) (q : Situation) → run cs capacity fault.None s xs ≡ t
      → IsMade t ys q → IsMade s (xs ++ ys) q
  made_after s t xs ys q to made = record {
    state = made.state;
    leads = run_append cs capacity fault.None s xs ys
        ∙ (ap (λ (z : State). run cs capacity fault.None z ys) to ∙ made.leads);
    follows = made.follows;
  }

  -- A core executes the stores at its place

  pub catch_up : (c : ℕ) → c < length cs → (j : ℕ) (s : State) (r : Situation) → IsRun s
      → Follows cs (length init) s r → row.place_of r c ≡ place_of s c + j
      → (t : State) × IsRun t × Follows cs (length init) t r × (place_of t c ≡ row.place_of r c)
      × (run cs capacity fault.None s (replicate j (steps.Exec c)) ≡ t)
  catch_up c core zero s r h f at = (s, h, f, omega (arith, at), refl)
  catch_up c core (suc j) s r h f at =
      let ops : List Op = ops_of cs c in
      let k : ℕ = place_of s c in
      let low : ℕ = row.drained_of r c in
      let g : IsInOrder cs s = in_order s h in
      let first : stores_first (drop k ops) ≡ suc j = omega (arith, (f.cores c).place, at) in
      let stands = store_stands ops k j first in
      let store = a_store (get_or ops k Fence) stands.1 in
      let b : ℕ = first_event cs c + k in
      let t : State = stored_state s c b store.0 store.1 in
      let few : length (buffer_of s c) < capacity = omega (
        arith,
        ap (λ (l : List Entry). length l) (f.cores c).buffer,
        entries_few (between ops low k) (first_event cs c + low),
        length_between ops low k (f.cores c).within,
        stands.0,
        room c,
      ) in
      let yes : Result State Blocked = Ok t in
      let took : step_result cs capacity fault.None s (steps.Exec c) ≡ yes =
      at_taken cs capacity fault.None s c (get_or ops k Fence) b (is_at cs s c core stands.0)
      ∙ (ap (exec capacity fault.None s c b) store.2
      ∙ ap (λ (q : Bool). cond q yes (Err B2)) (lt-ltb (length (buffer_of s c)) capacity few)) in
      let places : c < length s.places = omega (arith, core, g.steady.places) in
      let next : Follows cs (length init) t r =
      follow_store f c core stands.0 places store.0 store.1 b t (omega (arith, core, g.steady.buffers)) store.2 refl
      refl refl refl refl in
      let rest = catch_up c core j t r (step_run s t (steps.Exec c) h took) next
      (omega (arith, at, get_or-set_same s.places c (k + 1) 0 places)) in (
        rest.0,
        rest.1,
        rest.2,
        rest.3,
        ap (λ (z : Result State Blocked). run cs capacity fault.None (after s z) (replicate j (steps.Exec c))) took
            ∙ rest.4,
      )

  -- Lines

  module _ (s : State) (r : Situation) (h : IsRun s) (f : Follows cs (length init) s r) (c : ℕ)
      (core : c < length cs) where
    -- the core has a cache
    cached : c < s.caches.cores
    cached = omega (arith, core, (in_order s h).steady.cores)

    module _ (a : ℕ) (inside : a < length s.caches.blocks) where
      -- a line that is got to be read changes nothing
      gets_follow : (t : State) → step_result cs capacity fault.None s (steps.GetS c a) ≡ Ok t
          → Follows cs (length init) t r
      gets_follow t took =
          let g = guarded _ _ _ t took in
          let made = allowed_ok B7 (with_caches s) (moesi.get_s s.caches c a) t g.1 in
          subst (λ (z : State). Follows cs (length init) z r) made.2
          (transact_turn f (in_order s h) c cached made.0 a inside (inl made.1))

      -- nor one that is got to be written
      getm_follow : (t : State) → step_result cs capacity fault.None s (steps.GetM c a) ≡ Ok t
          → Follows cs (length init) t r
      getm_follow t took =
          let g = guarded _ _ _ t took in
          let made = allowed_ok B7 (with_caches s) (moesi.get_m s.caches c a) t g.1 in
          subst (λ (z : State). Follows cs (length init) z r) made.2
          (transact_turn f (in_order s h) c cached made.0 a inside (inr (inl made.1)))

      -- one step or none
      follow_if : (b : Bool) (step : Step) (t : State)
          → ((u : State) → step_result cs capacity fault.None s step ≡ Ok u → Follows cs (length init) u r)
          → StepsLead cs capacity s (cond b [] (step ∷ [])) t → Follows cs (length init) t r
      follow_if true step t one lead = subst (λ (z : State). Follows cs (length init) z r) lead.1 f
      follow_if false step t one lead =
          let took : step_result cs capacity fault.None s step ≡ Ok lead.0.0.0 = lead.0.0.1 in
          subst (λ (z : State). Follows cs (length init) z r) (sym (ap (after s) took) ∙ lead.1) (one lead.0.0.0 took)

      -- the steps that get a line to read it
      read_follow : (o : Option Entry) (t : State) → StepsLead cs capacity s (get_to_read s c a o) t
          → Follows cs (length init) t r
      read_follow (Some x) t lead = subst (λ (z : State). Follows cs (length init) z r) lead.1 f
      read_follow None t lead =
          follow_if (is_valid (moesi.line_of s.caches c a)) (steps.GetS c a) t gets_follow lead

      -- a core gets what a load reads
      pub read_line : (caches : moesi.CacheState) × IsRun (with_caches s caches)
          × Follows cs (length init) (with_caches s caches) r
          × ((what : ℕ × Option ℕ) × (looked_up fault.None (with_caches s caches) c a ≡ Ok what))
          × (run cs capacity fault.None s (get_to_read s c a (youngest (buffer_of s c) a)) ≡ with_caches s caches)
      read_line =
          let o : Option Entry = youngest (buffer_of s c) a in
          let got = fetch_read cs (length init) capacity s (stays s h) c a core inside o in (
            got.0,
            steps_run s (with_caches s got.0) (get_to_read s c a o) h got.1.0.1,
            read_follow o (with_caches s got.0) got.1.0,
            got.2,
            got.1.0.1,
          )

      -- a core gets a line to write it
      pub write_line : (caches : moesi.CacheState) × IsRun (with_caches s caches)
          × Follows cs (length init) (with_caches s caches) r × (is_exclusive (moesi.line_of caches c a) ≡ true)
          × (run cs capacity fault.None s (get_to_write s c a) ≡ with_caches s caches)
      write_line =
          let got = fetch_write cs (length init) capacity s (stays s h) c a core inside in (
            got.0,
            steps_run s (with_caches s got.0) (get_to_write s c a) h got.1.0.1,
            follow_if (is_exclusive (moesi.line_of s.caches c a)) (steps.GetM c a) (with_caches s got.0) getm_follow
                got.1.0,
            got.2,
            got.1.0.1,
          )

    -- An operation of the core

    module _ (q : Situation) (op : Op) (next : IsNext cs s c (first_event cs c + place_of s c) op)
        (is : moved cs r Exec c ≡ Some q) where
      -- the step of the machine
      step_is : step_result cs capacity fault.None s (steps.Exec c)
          ≡ exec capacity fault.None s c (first_event cs c + place_of s c) op
      step_is = at_taken cs capacity fault.None s c op (first_event cs c + place_of s c) (record {
        core = core;
        operation = slice_get-get_or (ops_of cs c) (place_of s c) Fence next.there
            ∙ ap (λ (o : Op). Some o) next.operation;
        number = refl;
      })

      -- it leads to where the move leads
      turned : (t : State) → exec capacity fault.None s c (first_event cs c + place_of s c) op ≡ Ok t
          → (u : Situation) × (moved cs r Exec c ≡ Some u) × Follows cs (length init) t u
          → IsMade s (steps.Exec c ∷ []) q
      turned t took turn = record {
        state = t;
        leads = ap (after s) (step_is ∙ took);
        follows = subst (Follows cs (length init) t) (same_Some turn.0 q (sym turn.1 ∙ is)) turn.2;
      }

      -- the next event has its place among what is read
      event_there : first_event cs c + place_of s c < length r.notes
      event_there = omega (arith, f.reads_size, (placed_at 0 cs c (place_of s c) Fence next.there).1)

      -- also in the machine
      recorded : first_event cs c + place_of s c < length s.reads
      recorded = omega (arith, next_event next, (in_order s h).steady.reads)

      -- the address that it reads is there
      address_there : (a : ℕ) → op_reads op ≡ Some a → a < length init
      address_there a reads = omega (
        arith,
        f.blocks,
        (in_order s h).steady.reads_within (first_event cs c + place_of s c) a
            (ap (λ (z : ℕ × Op). op_reads z.1) (next_placed next) ∙ reads),
      )

      -- an event that writes nothing
      looks : (what : ℕ × Option ℕ) → IsLook fault.None s c op what
          → exec capacity fault.None s c (first_event cs c + place_of s c) op
          ≡ Ok (loaded_state s c (first_event cs c + place_of s c) what) → IsMade s (steps.Exec c ∷ []) q
      looks what look took =
          turned (loaded_state s c (first_event cs c + place_of s c) what) took
          (look_turn f (in_order s h) c (first_event cs c + place_of s c) core next.core
          (beside cs cs s c (first_event cs c + place_of s c) op refl next) op next.operation event_there
          recorded op what
          look refl address_there)

      -- a read-modify-write
      modifies : (a : ℕ) (caches : moesi.CacheState) → IsRmw op (line_copy s c a) a → buffer_of s c ≡ []
          → moesi.write s.caches c a (rmw_value s c op a) (first_event cs c + place_of s c) ≡ Ok caches
          → exec capacity fault.None s c (first_event cs c + place_of s c) op
          ≡ Ok (rmw_state s caches c (first_event cs c + place_of s c) a) → IsMade s (steps.Exec c ∷ []) q
      modifies a caches rmw empty wrote took =
          turned (rmw_state s caches c (first_event cs c + place_of s c) a) took
          (rmw_turn f (in_order s h) c (first_event cs c + place_of s c) core next.core
          (beside cs cs s c (first_event cs c + place_of s c) op refl next) op next.operation event_there recorded op a
          caches rmw empty wrote refl (address_there a rmw.reads) cached)

  -- what is written in a line that may be written
  rmw_made : (s : State) (c b a : ℕ) (op : Op) (caches : moesi.CacheState) → buffer_of s c ≡ []
      → moesi.write s.caches c a (rmw_value s c op a) b ≡ Ok caches
      → read_modify_written fault.None s c b op a ≡ Ok (rmw_state s caches c b a)
  rmw_made s c b a op caches empty wrote =
      let effect : moesi.CacheState → State =
      λ k. advanced (performed (written (with_read s b (line_copy s c a)) k a b) b) c in
      ap (λ (l : List Entry). cond (may_rmw fault.None l)
      (or_blocked B5 effect (moesi.write s.caches c a (rmw_value s c op a) b)) (Err B3)) empty
      ∙ ap (or_blocked B5 effect) wrote

  -- A move of a core that has executed the stores at its place

  module _ (s : State) (r : Situation) (h : IsRun s) (f : Follows cs (length init) s r) (c : ℕ)
      (core : c < length cs) (q : Situation) (is : moved cs r Exec c ≡ Some q) where
    -- a line leaves the core at its operation
    next_with : (caches : moesi.CacheState) (op : Op) → IsNext cs s c (first_event cs c + place_of s c) op
        → IsNext cs (with_caches s caches) c (first_event cs c + place_of s c) op
    next_with caches op next =
        record { event = next.event; there = next.there; operation = next.operation; core = next.core }

    module _ (op : Op) (next : IsNext cs s c (first_event cs c + place_of s c) op) where
      -- the address that it reads has a line
      line_there : (a : ℕ) → op_reads op ≡ Some a → a < length s.caches.blocks
      line_there a reads =
          (in_order s h).steady.reads_within (first_event cs c + place_of s c) a
          (ap (λ (z : ℕ × Op). op_reads z.1) (next_placed next) ∙ reads)

      -- a load
      load_made : (a : ℕ) → op ≡ Ld a
          → IsMade s (get_to_read s c a (youngest (buffer_of s c) a) ++ steps.Exec c ∷ []) q
      load_made a load =
          let reads : op_reads op ≡ Some a = ap op_reads load in
          let got = read_line s r h f c core a (line_there a reads) in
          let t : State = with_caches s got.0 in
          let b : ℕ = first_event cs c + place_of s c in
          made_after s t (get_to_read s c a (youngest (buffer_of s c) a)) (steps.Exec c ∷ []) q got.4
          (looks t r got.1 got.2 c core q op (next_with got.0 op next) is got.3.0
          (record {
            store = ap is_st load;
            address = ap (λ (o : Op). written_address (event_of o got.3.0)) load;
            allowed = λ none. inl (ap is_ld load);
            got = λ k other. inl (subst (λ (z : ℕ). looked_up fault.None t c z ≡ Ok got.3.0)
                (same_Some a k (sym reads ∙ other)) got.3.1);
          })
          (ap (exec capacity fault.None t c b) load
          ∙ ap (or_blocked B4 (λ what. advanced (performed (with_read t b what) b) c)) got.3.1))

      -- a fence
      fence_made : op ≡ Fence → buffer_of s c ≡ [] → IsMade s (steps.Exec c ∷ []) q
      fence_made fence empty =
          let b : ℕ = first_event cs c + place_of s c in
          let what : ℕ × Option ℕ = get_or s.reads b (0, None) in
          let same : loaded_state s c b what ≡ advanced (performed s b) c =
          ap (λ (l : List (ℕ × Option ℕ)). advanced (performed (record s { reads = l }) b) c)
          (set-get_or s.reads b (0, None)) in
          looks s r h f c core q op next is what
          (record {
            store = ap is_st fence;
            address = ap (λ (o : Op). written_address (event_of o what)) fence;
            allowed = λ none. inr empty;
            got = λ k other. absurd (let clash : None ≡ Some k = sym (ap op_reads fence) ∙ other in cc);
          })
          (ap (exec capacity fault.None s c b) fence
          ∙ (ap (λ (l : List Entry). cond (may_fence fault.None l) (Ok (advanced (performed s b) c)) (Err B3)) empty
          ∙ ap (λ (z : State). Ok z) (sym same)))

      -- a swap or an add, which write
      writes_made : (a : ℕ) → op_reads op ≡ Some a → is_st op ≡ false → buffer_of s c ≡ []
          → ((d : ℕ × Option ℕ) → written_address (event_of op d) ≡ Some a)
          → ((t : State) → exec capacity fault.None t c (first_event cs c + place_of s c) op
          ≡ read_modify_written fault.None t c (first_event cs c + place_of s c) op a)
          → IsMade s (get_to_write s c a ++ steps.Exec c ∷ []) q
      writes_made a reads store empty writes does =
          let got = write_line s r h f c core a (line_there a reads) in
          let t : State = with_caches s got.0 in
          let b : ℕ = first_event cs c + place_of s c in
          let wrote = write_made got.0 c a (rmw_value t c op a) b got.3 in
          made_after s t (get_to_write s c a) (steps.Exec c ∷ []) q got.4
          (modifies t r got.1 got.2 c core q op (next_with got.0 op next) is a wrote.0
          (record { store = store; reads = reads; address = writes (line_copy t c a) }) empty wrote.1
          (does t ∙ rmw_made t c b a op wrote.0 empty wrote.1))

      -- a compare-and-swap, which writes or only reads
      cas_made : (a x v : ℕ) → op ≡ Cas a x v → buffer_of s c ≡ []
          → IsMade s (get_to_write s c a ++ steps.Exec c ∷ []) q
      cas_made a x v cas empty =
          let reads : op_reads op ≡ Some a = ap op_reads cas in
          let got = write_line s r h f c core a (line_there a reads) in
          made_after s (with_caches s got.0) (get_to_write s c a) (steps.Exec c ∷ []) q got.4
          (go got.0 got.1 got.2 got.3 ((line_copy (with_caches s got.0) c a).0 == x) refl)
        where
          go : (caches : moesi.CacheState) → IsRun (with_caches s caches)
              → Follows cs (length init) (with_caches s caches) r
              → is_exclusive (moesi.line_of caches c a) ≡ true → (z : Bool)
              → ((line_copy (with_caches s caches) c a).0 == x) ≡ z → IsMade (with_caches s caches) (steps.Exec c ∷ []) q
          go caches run follows owned true found =
              let t : State = with_caches s caches in
              let b : ℕ = first_event cs c + place_of s c in
              let wrote = write_made caches c a (rmw_value t c (Cas a x v) a) b owned in
              modifies t r run follows c core q op (next_with caches op next) is a wrote.0
              (record {
                store = ap is_st cas;
                reads = ap op_reads cas;
                address = ap (λ (o : Op). written_address (event_of o (line_copy t c a))) cas ∙ rw found refl;
              }) empty
              (ap (λ (o : Op). moesi.write caches c a (rmw_value t c o a) b) cas ∙ wrote.1)
              (ap (exec capacity fault.None t c b) cas
              ∙ (ap (λ (y : Bool). cond y (read_modify_written fault.None t c b (Swap a v) a)
              (read_unmodified fault.None t c b a)) found
              ∙ (sym (swap_is fault.None t c b a x v found) ∙ rmw_made t c b a (Cas a x v) wrote.0 empty wrote.1)))
          go caches run follows owned false found =
              let t : State = with_caches s caches in
              let b : ℕ = first_event cs c + place_of s c in
              looks t r run follows c core q op (next_with caches op next) is (line_copy t c a)
              (record {
                store = ap is_st cas;
                address = ap (λ (o : Op). written_address (event_of o (line_copy t c a))) cas ∙ rw found refl;
                allowed = λ none. inr empty;
                got = λ k other. inr (
                  λ none. empty,
                  rw (← same_Some a k (sym (ap op_reads cas) ∙ other)) (exclusive_read caches c a owned),
                );
              })
              (ap (exec capacity fault.None t c b) cas
              ∙ (ap (λ (y : Bool). cond y (read_modify_written fault.None t c b (Swap a v) a)
              (read_unmodified fault.None t c b a)) found
              ∙ (ap (λ (l : List Entry). cond (may_rmw fault.None l)
              (cond (is_exclusive (moesi.line_of caches c a)) (Ok (loaded_state t c b (line_copy t c a))) (Err B5))
              (Err B3)) empty
              ∙ ap (λ (y : Bool). cond y (Ok (loaded_state t c b (line_copy t c a))) (Err B5)) owned)))

    -- whatever the operation is
    exec_made : place_of s c ≡ row.place_of r c → (op : Op)
        → slice_get (ops_of cs c) (row.place_of r c) ≡ Some op → may_go (waiting cs r c) op ≡ true
        → IsMade s (perform s c (event_of op (0, None))) q
    exec_made place op at may = by op refl
      where
        there : place_of s c < length (ops_of cs c)
        there = omega (arith, place, slice_get_within (ops_of cs c) (row.place_of r c) op at)

        own : get_or (ops_of cs c) (place_of s c) Fence ≡ op
        own = ap (λ (k : ℕ). get_or (ops_of cs c) k Fence) place
            ∙ get_or_from_slice_get (ops_of cs c) (row.place_of r c) op Fence at

        next : IsNext cs s c (first_event cs c + place_of s c) op
        next = record {
          event = refl;
          there = there;
          operation = own;
          core = omega (arith, core, (in_order s h).steady.places);
        }

        empty : may_go (waiting cs r c) op ≡ none_waits stored_by_op (waiting cs r c) → buffer_of s c ≡ []
        empty same =
            (f.cores c).buffer
            ∙ (ap (λ (k : ℕ). entries (first_event cs c + row.drained_of r c)
            (between (ops_of cs c) (row.drained_of r c) k)) place
            ∙ no_entries (waiting cs r c) (first_event cs c + row.drained_of r c) (sym same ∙ may))

        so : (o : Op) → op ≡ o → IsMade s (perform s c (event_of o (0, None))) q
            → IsMade s (perform s c (event_of op (0, None))) q
        so o one made = subst (λ (z : Op). IsMade s (perform s c (event_of z (0, None))) q) (sym one) made

        -- a compare-and-swap takes the steps of a swap, whatever it reads
        as_swap : (a x v : ℕ) → perform s c (event_of (Cas a x v) (0, None)) ≡ get_to_write s c a ++ steps.Exec c ∷ []
        as_swap a x v = go (0 == x)
          where
            go : (b : Bool) → perform s c (cond b (R a 0 None v) (C a 0 None)) ≡ get_to_write s c a ++ steps.Exec c ∷ []
            go true = refl
            go false = refl

        by : (o : Op) → op ≡ o → IsMade s (perform s c (event_of op (0, None))) q
        by (St a v) one = absurd (let clash : false ≡ true =
            sym (ap (may_go (waiting cs r c)) one) ∙ may in cc)
        by (Ld a) one = so (Ld a) one (load_made op next a one)
        by Fence one = so Fence one (fence_made op next one (empty (ap (may_go (waiting cs r c)) one)))
        by (Swap a v) one = so (Swap a v) one (writes_made op next a (ap op_reads one) (ap is_st one)
            (empty (ap (may_go (waiting cs r c)) one))
            (λ d. ap (λ (z : Op). written_address (event_of z d)) one)
            (λ t. ap (exec capacity fault.None t c (first_event cs c + place_of s c)) one
            ∙ sym (ap (λ (z : Op). read_modify_written fault.None t c (first_event cs c + place_of s c) z a) one)))
        by (Add a v) one = so (Add a v) one (writes_made op next a (ap op_reads one) (ap is_st one)
            (empty (ap (may_go (waiting cs r c)) one))
            (λ d. ap (λ (z : Op). written_address (event_of z d)) one)
            (λ t. ap (exec capacity fault.None t c (first_event cs c + place_of s c)) one
            ∙ sym (ap (λ (z : Op). read_modify_written fault.None t c (first_event cs c + place_of s c) z a) one)))
        by (Cas a x v) one = so (Cas a x v) one (subst (λ (l : List Step). IsMade s l q) (sym (as_swap a x v))
            (cas_made op next a x v one (empty (ap (may_go (waiting cs r c)) one))))

    -- an operation that is executed
    execs : place_of s c ≡ row.place_of r c → (op : Op) → op_moved cs r Exec c ≡ Some op
        → IsMade s (perform s c (event_of op (0, None))) q
    execs place op at =
        exec_made place op at (some_if (may_go (waiting cs r c) op) _ q
        (sym (ap (executed_next cs r c) at) ∙ is))

  -- a store that comes to memory
  drains : (s : State) (r : Situation) → IsRun s → Follows cs (length init) s r → (c : ℕ) → c < length cs
      → (q : Situation) → moved cs r Drain c ≡ Some q → place_of s c ≡ row.place_of r c → (op : Op)
      → op_moved cs r Drain c ≡ Some op → IsMade s (perform s c (event_of op (0, None))) q
  drains s r h f c core q is place op at = go (buffer_of s c) refl
    where
      known : entries (first_event cs c + row.drained_of r c) (waiting cs r c) ≡ buffer_of s c
      known = ap (λ (k : ℕ). entries (first_event cs c + row.drained_of r c)
          (between (ops_of cs c) (row.drained_of r c) k)) (sym place) ∙ sym (f.cores c).buffer

      go : (b : List Entry) → buffer_of s c ≡ b → IsMade s (perform s c (event_of op (0, None))) q
      go [] waits = absurd (let clash : None ≡ Some q =
          sym (ap (drained_by r c) ((none_found (waiting cs r c) (row.drained_of r c)
          (first_event cs c + row.drained_of r c) (known ∙ waits)).0)) ∙ is in cc)
      go (x ∷ xs) waits =
          let g : IsInOrder cs s = in_order s h in
          let stores : AreStores cs c (x ∷ xs) = subst (λ (b : List Entry). AreStores cs c b) waits (g.steady.stores c)
          in
          let inside : x.addr < length s.caches.blocks =
          g.steady.writes_within x.event x.addr (0, None)
          (ap (λ (z : ℕ × Op). written_address (event_of z.1 (0, None))) stores.0) in
          let got = write_line s r h f c core x.addr inside in
          let t : State = with_caches s got.0 in
          let wrote = write_made got.0 c x.addr x.value x.event got.3 in
          let u : State = drained_state t wrote.0 c x xs in
          let effect : List Entry → moesi.CacheState → State =
          λ l k. performed (written (with_buffer t c (without 0 l)) k x.addr x.event) x.event in
          let took : step_result cs capacity fault.None t (steps.Drain c) ≡ Ok u =
          ap (λ (z : Bool). cond z (drained fault.None t c) (Err B8)) (lt-ltb c (length cs) core)
          ∙ (ap (λ (l : List Entry). drained_at t c 0 (slice_get l 0)) waits
          ∙ (ap (or_blocked B5 (effect (buffer_of s c))) wrote.1
          ∙ ap (λ (l : List Entry). let z : Result State Blocked = Ok (effect l wrote.0) in z) waits)) in
          let inner : x.addr < length init = omega (arith, inside, f.blocks) in
          let turn = drain_turn got.2 (in_order t got.1) c
          (omega (arith, core, (in_order t got.1).steady.cores)) wrote.0 x xs core
          (omega (arith, core, (in_order t got.1).steady.buffers)) waits inner wrote.1 in
          let first = found_oldest (waiting cs r c) (row.drained_of r c) (first_event cs c + row.drained_of r c) x xs
          (known ∙ waits) in
          let store : op ≡ St x.addr x.value = same_Some op (St x.addr x.value)
          (sym at ∙ ap (option_map (λ (w : Waiting). St w.address w.value)) first.found) in
          subst (λ (z : Op). IsMade s (perform s c (event_of z (0, None))) q) (sym store)
          (made_after s t (get_to_write s c x.addr) (steps.Drain c ∷ []) q got.4
          (record {
            state = u;
            leads = ap (after t) took;
            follows = subst (Follows cs (length init) u) (same_Some turn.0 q (sym turn.1 ∙ is)) turn.2;
          }))

  -- a move has an operation
  has_op : (r q : Situation) (move : Move) (c : ℕ) → moved cs r move c ≡ Some q
      → (op : Op) × (op_moved cs r move c ≡ Some op)
  has_op r q Exec c is = go (slice_get (ops_of cs c) (row.place_of r c)) refl
    where
      go : (o : Option Op) → slice_get (ops_of cs c) (row.place_of r c) ≡ o
          → (op : Op) × (op_moved cs r Exec c ≡ Some op)
      go None at = absurd (let clash : None ≡ Some q = sym (ap (executed_next cs r c) at) ∙ is in cc)
      go (Some op) at = (op, at)
  has_op r q Drain c is = go (oldest stored_by_op (row.drained_of r c) (waiting cs r c)) refl
    where
      go : (o : Option Waiting) → oldest stored_by_op (row.drained_of r c) (waiting cs r c) ≡ o
          → (op : Op) × (op_moved cs r Drain c ≡ Some op)
      go None at = absurd (let clash : None ≡ Some q = sym (ap (drained_by r c) at) ∙ is in cc)
      go (Some x) at = (St x.address x.value, ap (option_map (λ (w : Waiting). St w.address w.value)) at)

  -- a core that is there executes the stores at its place, and performs the operation of its move
  pub move_made : (s : State) (r q : Situation) (move : Move) (c : ℕ) (op : Op) → IsRun s
      → Follows cs (length init) s r → c < length cs → op_moved cs r move c ≡ Some op → moved cs r move c ≡ Some q
      → let first = execute_to cs s c (first_event cs c + row.place_of r c) in
      IsMade s (first ++ perform (run cs capacity fault.None s first) c (event_of op (0, None))) q
  move_made s r q move c op h f core at is =
      let j : ℕ = stores_first (drop (place_of s c) (ops_of cs c)) in
      let many : j ≡ first_event cs c + row.place_of r c - (first_event cs c + place_of s c) =
      omega (arith, (f.cores c).place) in
      let ready = catch_up c core j s r h f (f.cores c).place in
      let to : run cs capacity fault.None s (execute_to cs s c (first_event cs c + row.place_of r c)) ≡ ready.0 =
      ap (λ (k : ℕ). run cs capacity fault.None s (replicate k (steps.Exec c))) (sym many) ∙ ready.4 in
      made_after s (run cs capacity fault.None s (execute_to cs s c (first_event cs c + row.place_of r c)))
      (execute_to cs s c (first_event cs c + row.place_of r c)) _ q refl
      (subst (λ (t : State). IsMade t (perform t c (event_of op (0, None))) q) (sym to)
      (go move ready.0 ready.1 ready.2 ready.3 at is))
    where
      go : (m : Move) (t : State) → IsRun t → Follows cs (length init) t r → place_of t c ≡ row.place_of r c
          → op_moved cs r m c ≡ Some op → moved cs r m c ≡ Some q → IsMade t (perform t c (event_of op (0, None))) q
      go Exec t run follows place one to = execs t r run follows c core q to place op one
      go Drain t run follows place one to = drains t r run follows c core q to place op one

  -- so whatever a move leads to is seen
  move_seen : (r q : Situation) (move : Move) (c : ℕ) → IsSeen r → moved cs r move c ≡ Some q → IsSeen q
  move_seen r q move c seen is = elim (cases_lt c (length cs)) [
    | inr past ↦ absurd (let low = moved_past cs r q move c past is 0 in omega (arith, low))
    | inl core ↦
        let one = has_op r q move c is in
        let made = move_made seen.state r q move c one.0 seen.is_run seen.follows core one.1 is in
        let first : List Step = execute_to cs seen.state c (first_event cs c + row.place_of r c) in
        record {
          state = made.state;
          is_run = steps_run seen.state made.state
              (first ++ perform (run cs capacity fault.None seen.state first) c (event_of one.0 (0, None)))
              seen.is_run made.leads;
          follows = made.follows;
        }
  ]

  -- and all that moves lead to
  pub all_seen : (origin r : Situation) → IsSeen origin → Leads cs origin r → IsSeen r
  all_seen origin r seen here = seen
  all_seen origin r seen (further s t move c led is) = move_seen s t move c (all_seen origin s seen led) is

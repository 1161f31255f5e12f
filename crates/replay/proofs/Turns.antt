-- Where the order up to an event was performed, the steps of this event are taken, and perform it.
use Rattle.std.proofs.Common.{◌≡◌, ◌<◌, ◌≤◌, ◌+◌, ◌-◌, ◌%◌, ◌^◌, ◌==◌, ◌&&◌, inl, inr, ℕ, Bool, true, false, cond}
use Rattle.std.proofs.Common.{Option, Ok, List, [], ◌∷◌, ◌++◌, map, length, get_or, slice_set, arith, refl, sym, ap}
use Rattle.std.proofs.Common.{subst, ◌∙◌, length-append}
use Rattle.std.specs.List.{sum, count_by}
use Rattle.std.proofs.lemmas.List.Sums.{sum_by-set}
use Rattle.std.proofs.lemmas.Bool.{cases_eq, cases_lt, lt-ltb, cases_Bool, and_parts, and_right}
use Rattle.program.specs.declared.op.Op.{Op}
use Rattle.program.specs.declared.op.Op.TheVariants.{St, Ld, Fence, Swap, Cas}
use Rattle.program.specs.Parts.{IsWithin}
use Rattle.recording.specs.declared.event.Event.TheVariants.{L, S, R, C, F}
use Rattle.recording.specs.Event.{is_plain_store, is_plain_load}
use Rattle.recording.specs.Execution.{Execution, placed_from, event_count, event_at, core_of}
use Rattle.recording.specs.Order.{times, Before}
use Rattle.recording.specs.Tso.{IsTsoOrder}
use Rattle.recording.specs.OrderLaws.{cases_times, place_here, place_there, times_here, times_nil, times_append}
use Rattle.recording.specs.OrderLaws.{place_append_right}
use Rattle.moesi.specs.State as moesi
use Rattle.moesi.specs.Lines.{is_exclusive}
use Rattle.write_buffer.specs.declared.entry.Entry.{Entry}
use Rattle.write_buffer.specs.Buffer.{youngest}
use Rattle.program.specs.declared.fault.Fault.TheVariants as fault
use Rattle.machine.specs.declared.step.Step.{Step}
use Rattle.machine.specs.declared.step.Step.TheVariants.{Exec, Drain}
use Rattle.machine.specs.declared.blocked.Blocked.TheVariants.{B4}
use Rattle.machine.specs.State.{State, place_of, buffer_of, line_copy, first_event}
use Rattle.machine.specs.Step.{exec, step_result, or_blocked, advanced, performed, with_read, written, with_buffer}
use Rattle.machine.specs.Step.{with_caches, rmw_value, read_modify_written, read_unmodified}
use Rattle.program_events.specs.NamedProgram.{op_of, program_of}
use Rattle.replay.specs.Steps.{execute_to, get_to_write, get_to_read}
use Rattle.program_events.specs.Operations.{placed_op, is_st, is_ld}
use Rattle.machine.specs.Orderly.{AreStores, seen_by, IsOrderly}
use Rattle.recording.specs.PlacedLaws.{placed_at}
use Rattle.machine.proofs.PlaceLemmas.{event_after, event_before}
use Rattle.program_events.proofs.MadeAgain.{store_same, placed_is, count_same}
use Rattle.replay.proofs.Made.{core_there}
use Rattle.replay.proofs.OrderlyRuns.{StaysOrderly, goes_further, waiting, stores_wait, waits_once}
use Rattle.machine.specs.RunLaws.{at_taken}
use Rattle.replay.proofs.StepLists.{StepsLead, goes_one, goes_on, is_at, HasStored, store_all, Fetches, fetch_write}
use Rattle.replay.proofs.StepLists.{fetch_read, write_made, few_write, few_read}

-- a plain store is no plain load
store_no_load : (op : Op) → is_st op ≡ true → is_ld op ≡ false
store_no_load (Ld a) h = absurd cc
store_no_load op h = refl

-- the state after core c's oldest store went to its line, which left these caches
abbrev pub drained_state : State → moesi.CacheState → ℕ → Entry → List Entry → State
drained_state s caches c y ys = performed (written (with_buffer s c ys) caches y.addr y.event) y.event

-- the oldest store goes to its line
drain_taken : (p : List (List Op)) (capacity : ℕ) (s : State) (caches : moesi.CacheState) (c : ℕ) (y : Entry)
    (ys : List Entry) → c < length p → buffer_of s c ≡ y ∷ ys
    → moesi.write s.caches c y.addr y.value y.event ≡ Ok caches
    → step_result p capacity fault.None s (Drain c) ≡ Ok (drained_state s caches c y ys)
drain_taken p capacity s caches c y ys core is wrote = rw (lt-ltb c (length p) core, is, wrote, is) refl

-- a compare-and-swap with an empty buffer is executed in a line that is M or E, whatever that has
cas_did : (capacity : ℕ) (s : State) (caches : moesi.CacheState) (c b a e v : ℕ) → buffer_of s c ≡ []
    → is_exclusive (moesi.line_of s.caches c a) ≡ true
    → moesi.write s.caches c a (rmw_value s c (Swap a v) a) b ≡ Ok caches
    → (t : State) × (exec capacity fault.None s c b (Cas a e v) ≡ Ok t)
    × (t.places ≡ slice_set s.places c (place_of s c + 1)) × (t.performed ≡ s.performed ++ b ∷ [])
cas_did capacity s caches c b a e v empty exclusive wrote = go ((line_copy s c a).0 == e)
  where
    go : (q : Bool) → (t : State) × (cond q (read_modify_written fault.None s c b (Swap a v) a)
        (read_unmodified fault.None s c b a) ≡ Ok t)
        × (t.places ≡ slice_set s.places c (place_of s c + 1)) × (t.performed ≡ s.performed ++ b ∷ [])
    go true = (
      advanced (performed (written (with_read s b (line_copy s c a)) caches a b) b) c,
      rw (empty, wrote) refl,
      refl,
      refl,
    )
    go false = (
      advanced (performed (with_read s b (line_copy s c a)) b) c,
      rw (empty, exclusive) refl,
      refl,
      refl,
    )

-- the steps lead from s to t, which has performed e more, and no more than two of them execute nothing
pub record IsTurn (p : List (List Op)) (n capacity : ℕ) (s : State) (steps : List Step) (e : ℕ)
    (t : State) : Type 0 where
  pub goes : StepsLead p capacity s steps t
  pub fits : StaysOrderly p n capacity t
  pub performed : t.performed ≡ s.performed ++ e ∷ []
  pub few : length steps + sum s.places ≤ sum t.places + 2

-- the number of the next event of e's core
abbrev pub next_number : Execution → State → ℕ → ℕ
next_number x s e = first_event (program_of x) (core_of x e) + place_of s (core_of x e)

module _ (x : Execution) (m : List ℕ) (tso : IsTsoOrder x m) (n capacity : ℕ) (room : (c : ℕ)
    → count_by is_st (get_or (program_of x) c []) ≤ capacity) where
  module _ (s : State) (f : StaysOrderly (program_of x) n capacity s) (e : ℕ) (rest : List ℕ)
      (split : m ≡ s.performed ++ e ∷ rest) where
    -- e is an event
    event : e < event_count x
    event = tso.total.nothing_else e (omega (
      arith,
      ap (λ (l : List ℕ). times l e) split,
      times_append s.performed (e ∷ rest) e,
      times_here rest e e refl,
    ))

    -- and is not performed
    fresh : times s.performed e ≡ 0
    fresh = omega (
      arith,
      tso.total.once e event,
      ap (λ (l : List ℕ). times l e) split,
      times_append s.performed (e ∷ rest) e,
      times_here rest e e refl,
    )

    -- what is earlier on its core and not performed is a plain store, and e a plain load
    after : (w : ℕ) → w < e → core_of x w ≡ core_of x e → times s.performed w ≡ 0
        → (is_plain_store (event_at x w) && is_plain_load (event_at x e)) ≡ true
    after w earlier core new =
        elim (cases_Bool (is_plain_store (event_at x w) && is_plain_load (event_at x e))) [
          | inl is ↦ is
          | inr strong ↦
              let before : Before (s.performed ++ e ∷ rest) w e =
              subst (λ (l : List ℕ). Before l w e) split (tso.kept w e ((earlier, event, core), strong)) in
              absurd (omega (
                arith,
                before,
                place_append_right s.performed (e ∷ rest) w new,
                place_append_right s.performed (e ∷ rest) e fresh,
                place_here rest e e refl,
              ))
        ]

    -- it is one of the program's
    counted : e < length (placed_from 0 (program_of x))
    counted = omega (arith, event, count_same x)

    -- the core of an event
    core_same : (w : ℕ) → (placed_op (program_of x) w).0 ≡ core_of x w
    core_same w = ap (λ (z : ℕ × Op). z.0) (placed_is x w)

    -- it stands after the first of its core
    from : first_event (program_of x) (core_of x e) ≤ e
    from = rw (← core_same e) (event_after (program_of x) e counted)

    -- and before the end
    to : e < first_event (program_of x) (core_of x e) + length (get_or (program_of x) (core_of x e) [])
    to = rw (← core_same e) (event_before (program_of x) e counted)

    -- so its core is there
    core : core_of x e < length (program_of x)
    core = core_there x e event

    -- the operation i of the core is that of its event i
    op_there : (i : ℕ) → i < length (get_or (program_of x) (core_of x e) [])
        → (get_or (get_or (program_of x) (core_of x e) []) i Fence
        ≡ op_of (event_at x (first_event (program_of x) (core_of x e) + i)))
        × (core_of x (first_event (program_of x) (core_of x e) + i) ≡ core_of x e)
    op_there i inside =
        let at = (placed_at 0 (program_of x) (core_of x e) i Fence inside).0 in
        let is = placed_is x (first_event (program_of x) (core_of x e) + i) in (
          ap (λ (z : ℕ × Op). z.1) (sym at) ∙ ap (λ (z : ℕ × Op). z.1) is,
          ap (λ (z : ℕ × Op). z.0) (sym is) ∙ (ap (λ (z : ℕ × Op). z.0) at ∙ omega arith),
        )

    -- what its core has not executed is not performed
    new : (w : ℕ) → core_of x w ≡ core_of x e
        → next_number x s e ≤ w → times s.performed w ≡ 0
    new w own after_all = elim (cases_times s.performed w) [
      | inl none ↦ none
      | inr there ↦
          let done = (f.on []).executed (core_of x e) w
          (omega (arith, there, times_append s.performed (waiting s (core_of x e)) w)) in
          absurd (omega (
            arith,
            after_all,
            subst (λ (c : ℕ). w < first_event (program_of x) c + place_of s c)
                (core_same w ∙ own) done.1,
          ))
    ]

    -- what its core executes before it are plain stores
    stores_first : (i : ℕ) → place_of s (core_of x e) ≤ i → first_event (program_of x) (core_of x e) + i < e
        → is_st (get_or (get_or (program_of x) (core_of x e) []) i Fence) ≡ true
    stores_first i next earlier =
        let w : ℕ = first_event (program_of x) (core_of x e) + i in
        let at = op_there i (omega (arith, earlier, to)) in
        let both : (is_plain_store (event_at x w) && is_plain_load (event_at x e)) ≡ true =
        after w earlier at.1 (new w at.1 (omega (arith, next))) in
        ap is_st at.0 ∙ (store_same (event_at x w)
        ∙ (and_parts (is_plain_store (event_at x w)) (is_plain_load (event_at x e)) both).0)

    -- its core executes them, and itself if it is a plain store
    pub caught_up : (far : ℕ) → far ≤ e + 1 → (e < far → is_plain_store (event_at x e) ≡ true)
        → (t : State) × StepsLead (program_of x) capacity s (execute_to (program_of x) s (core_of x e) far) t
        × HasStored (program_of x) n capacity s t (core_of x e)
        (far - next_number x s e)
    caught_up far short store =
        store_all (program_of x) n capacity (core_of x e)
        (far - next_number x s e) s f core
        (omega (arith, from, to, short, (f.on []).within (core_of x e))) (room (core_of x e))
        (λ i next earlier. elim (cases_lt (first_event (program_of x) (core_of x e) + i) e) [
          | inl before ↦ stores_first i next before
          | inr not_before ↦
              let here : first_event (program_of x) (core_of x e) + i ≡ e =
              omega (arith, not_before, next, earlier, short) in
              ap is_st ((op_there i (omega (arith, here, to))).0 ∙ ap (λ (k : ℕ). op_of (event_at x k)) here)
              ∙ (store_same (event_at x e) ∙ store (omega (arith, here, next, earlier)))
        ])

    -- what waits on its core is a plain store of it, executed and not performed
    waits : (w : ℕ) → 0 < times (waiting s (core_of x e)) w
        → (core_of x w ≡ core_of x e) × (is_plain_store (event_at x w) ≡ true)
        × (w < next_number x s e)
        × (times s.performed w ≡ 0)
    waits w there =
        let o : IsOrderly (program_of x) n s = f.on [] in
        let was = stores_wait (program_of x) (core_of x e) w (buffer_of s (core_of x e))
        (o.stores (core_of x e)) there in
        let done = o.executed (core_of x e) w
        (omega (arith, there, times_append s.performed (waiting s (core_of x e)) w)) in (
          sym (core_same w) ∙ was.0,
          sym (store_same (event_at x w)) ∙ (sym (ap (λ (z : ℕ × Op). is_st z.1) (placed_is x w)) ∙ was.1),
          subst (λ (c : ℕ). w < first_event (program_of x) c + place_of s c) was.0 done.1,
          omega (arith, waits_once (program_of x) n s o (core_of x e) w there, there),
        )

    -- if it is executed it waits
    waits_itself : e < next_number x s e
        → 0 < times (waiting s (core_of x e)) e
    waits_itself done =
        let one : times (seen_by s (core_of x e)) e ≡ 1 =
        rw (← core_same e) ((f.on []).once e (
          counted,
          rw (core_same e) done,
        )) in
        omega (arith, one, fresh, times_append s.performed (waiting s (core_of x e)) e)

    module _ (ready : e ≤ next_number x s e) where
      -- if it is no plain store it is next
      is_next : is_plain_store (event_at x e) ≡ false
          → e ≡ next_number x s e
      is_next plain =
          elim (cases_lt e (next_number x s e)) [
            | inl done ↦ absurd (let clash : true ≡ false = sym (waits e (waits_itself done)).1 ∙ plain in cc)
            | inr not_yet ↦ omega (arith, ready, not_yet)
          ]

      -- where it is no plain load either, nothing waits
      is_emptied : is_plain_store (event_at x e) ≡ false → is_plain_load (event_at x e) ≡ false
          → buffer_of s (core_of x e) ≡ []
      is_emptied plain strong = go (buffer_of s (core_of x e)) refl
        where
          go : (b : List Entry) → buffer_of s (core_of x e) ≡ b → buffer_of s (core_of x e) ≡ []
          go [] is = is
          go (y ∷ ys) is =
              let there : 0 < times (waiting s (core_of x e)) y.event =
              rw is (omega (arith, times_here (map (λ (z : Entry). z.event) ys) y.event y.event refl)) in
              let own = waits y.event there in
              let both = after y.event (omega (arith, own.2, is_next plain)) own.0 own.3 in
              absurd (let clash : true ≡ false =
              sym ((and_parts (is_plain_store (event_at x y.event)) (is_plain_load (event_at x e))
              both).1) ∙ strong in cc)

    -- where it is a plain store that is executed, it is the oldest that waits
    oldest : is_plain_store (event_at x e) ≡ true → is_plain_load (event_at x e) ≡ false
        → e < next_number x s e
        → (y : Entry) × (ys : List Entry) × (buffer_of s (core_of x e) ≡ y ∷ ys) × (y.event ≡ e)
    oldest store strong done = go (buffer_of s (core_of x e)) refl
      where
        itself : 0 < times (waiting s (core_of x e)) e
        itself = waits_itself done

        go : (b : List Entry) → buffer_of s (core_of x e) ≡ b
            → (y : Entry) × (ys : List Entry) × (buffer_of s (core_of x e) ≡ y ∷ ys) × (y.event ≡ e)
        go [] is = absurd (omega (
          arith,
          subst
              (λ (b : List Entry). 0 < times (map (λ (z : Entry). z.event) b) e) is itself,
          times_nil e,
        ))
        go (y ∷ ys) is =
            let w : ℕ = y.event in
            let back : List ℕ = map (λ (z : Entry). z.event) ys in
            let there : 0 < times (waiting s (core_of x e)) w =
            subst (λ (b : List Entry). 0 < times (map (λ (z : Entry). z.event) b) w) (sym is)
            (omega (arith, times_here back w w refl)) in
            let own = waits w there in
            elim (cases_eq w e) [
              | inl one ↦ (y, ys, is, one)
              | inr other ↦ elim (cases_lt w e) [
                | inl less ↦
                    let both = after w less own.0 own.3 in
                    absurd (let clash : true ≡ false =
                    sym ((and_parts (is_plain_store (event_at x w)) (is_plain_load (event_at x e))
                    both).1) ∙ strong in cc)
                | inr more ↦
                    let same : (placed_op (program_of x) w).0 ≡ core_of x e = core_same w ∙ own.0 in
                    let st : is_st (placed_op (program_of x) w).1 ≡ true =
                    ap (λ (z : ℕ × Op). is_st z.1) (placed_is x w)
                    ∙ (store_same (event_at x w) ∙ own.1) in
                    let executed =
                    (f.on []).executed (core_of x e) w (omega
                    (arith, there, times_append s.performed (waiting s (core_of x e)) w)) in
                    let kept : Before (seen_by s (placed_op (program_of x) w).0) e w =
                    (f.on []).kept e w (omega (arith, more, other), executed.0, core_same e ∙ sym same)
                    executed
                    (and_right (is_st (placed_op (program_of x) e).1) (is_ld (placed_op (program_of x) w).1)
                    (store_no_load (placed_op (program_of x) w).1 st)) in
                    let here : Before (s.performed ++ w ∷ back) e w =
                    subst (λ (b : List Entry). Before (s.performed ++ map (λ (z : Entry). z.event) b) e w)
                    is
                    (subst (λ (c : ℕ). Before (s.performed ++ waiting s c) e w) same kept) in
                    absurd (omega (
                      arith,
                      here,
                      place_append_right s.performed (w ∷ back) e fresh,
                      place_append_right s.performed (w ∷ back) w own.3,
                      place_here back w w refl,
                      place_there back w e other,
                    ))
              ]
            ]

    -- the address of its operation is there
    address_there : (op : Op) → op_of (event_at x e) ≡ op → IsWithin (length s.caches.blocks) op
    address_there op is = subst (λ (k : ℕ). IsWithin k op) (sym (f.on []).blocks)
        (subst (λ (o : Op). IsWithin n o) (ap (λ (z : ℕ × Op). z.1) (placed_is x e) ∙ is)
        ((f.on []).addresses e))

    -- a core that goes on by one operation adds one to all places
    sum_up : sum (slice_set s.places (core_of x e) (place_of s (core_of x e) + 1)) ≡ sum s.places + 1
    sum_up = omega (
      arith,
      sum_by-set (λ (k : ℕ). k) s.places (core_of x e) (place_of s (core_of x e) + 1) 0
          (omega (arith, core, (f.on []).places)),
    )

    module _ (ready : e ≤ next_number x s e)
        (plain : is_plain_store (event_at x e) ≡ false) where
      -- the core executes e as its next event, after at most one step that left these caches
      executed : (gets : List Step) (caches : moesi.CacheState) (op : Op) (t : State)
          → Fetches (program_of x) n capacity s gets caches → length gets ≤ 1 → op_of (event_at x e) ≡ op
          → exec capacity fault.None (with_caches s caches) (core_of x e) (next_number x s e) op ≡ Ok t
          → t.places ≡ slice_set s.places (core_of x e) (place_of s (core_of x e) + 1)
          → t.performed ≡ s.performed ++ next_number x s e ∷ []
          → (t : State) × IsTurn (program_of x) n capacity s (gets ++ Exec (core_of x e) ∷ []) e t
      executed gets caches op t got short is did places done =
          let p : List (List Op) = program_of x in
          let c : ℕ = core_of x e in
          let u : State = with_caches s caches in
          let b : ℕ = next_number x s e in
          let next : e ≡ b = is_next ready plain in
          let inside : place_of s c < length (get_or p c []) = omega (arith, next, to) in
          let op_is : get_or (get_or p c []) (place_of s c) Fence ≡ op =
          (op_there (place_of s c) inside).0 ∙ (ap (λ (k : ℕ). op_of (event_at x k)) (sym next) ∙ is) in
          let took : step_result p capacity fault.None u (Exec c) ≡ Ok t =
          at_taken p capacity fault.None u c (get_or (get_or p c []) (place_of s c) Fence) b
          (is_at p u c core inside) ∙ (ap (exec capacity fault.None u c b) op_is ∙ did) in (
            t,
            record {
              goes = goes_on p capacity s u t gets (Exec c ∷ []) got.0 (goes_one p capacity u t (Exec c) took);
              fits = goes_further p n capacity u t (Exec c) got.1 took;
              performed = done ∙ ap (λ (k : ℕ). s.performed ++ k ∷ []) (sym next);
              few = omega (
                arith,
                sum_up,
                ap (λ (l : List ℕ). sum l) places,
                short,
                length-append gets (Exec c ∷ []),
              );
            },
          )

      -- a fence takes its turn
      pub fence_turn : event_at x e ≡ F → (t : State)
          × IsTurn (program_of x) n capacity s (Exec (core_of x e) ∷ []) e t
      fence_turn is =
          let c : ℕ = core_of x e in
          let b : ℕ = next_number x s e in
          let empty : buffer_of s c ≡ [] = is_emptied ready plain (ap is_plain_load is) in
          executed [] s.caches Fence (advanced (performed s b) c) ((tt, refl), f, refl) (omega arith) (ap op_of is)
          (rw empty refl) refl refl

      -- an event that needs a line that is M or E takes its turn
      write_turn : (a : ℕ) (op : Op) → op_of (event_at x e) ≡ op → IsWithin (length s.caches.blocks) (St a 0)
          → ((caches : moesi.CacheState) → is_exclusive (moesi.line_of caches (core_of x e) a) ≡ true
          → (t : State)
          × (exec capacity fault.None (with_caches s caches) (core_of x e) (next_number x s e) op ≡ Ok t)
          × (t.places ≡ slice_set s.places (core_of x e) (place_of s (core_of x e) + 1))
          × (t.performed ≡ s.performed ++ next_number x s e ∷ []))
          → (t : State) × IsTurn (program_of x) n capacity s
          (get_to_write s (core_of x e) a ++ Exec (core_of x e) ∷ []) e t
      write_turn a op is within does =
          let got = fetch_write (program_of x) n capacity s f (core_of x e) a core within in
          let did = does got.0 got.2 in
          executed (get_to_write s (core_of x e) a) got.0 op did.0 got.1 (few_write s (core_of x e) a) is did.1 did.2
          did.3

      -- so does a read-modify-write
      pub rmw_turn : (a r w : ℕ) (o : Option ℕ) → event_at x e ≡ R a r o w
          → (t : State) × IsTurn (program_of x) n capacity s
          (get_to_write s (core_of x e) a ++ Exec (core_of x e) ∷ []) e t
      rmw_turn a r w o is =
          let c : ℕ = core_of x e in
          let b : ℕ = next_number x s e in
          let empty : buffer_of s c ≡ [] = is_emptied ready plain (ap is_plain_load is) in
          write_turn a (Swap a w) (ap op_of is) (address_there (Swap a w) (ap op_of is)) (λ caches own.
          let u : State = with_caches s caches in
          let made = write_made caches c a (rmw_value u c (Swap a w) a) b own in (
            advanced (performed (written (with_read u b (line_copy u c a)) made.0 a b) b) c,
            rw (empty, made.1) refl,
            refl,
            refl,
          ))

      -- and a compare-and-swap that failed
      pub cas_turn : (a r : ℕ) (o : Option ℕ) → event_at x e ≡ C a r o
          → (t : State) × IsTurn (program_of x) n capacity s
          (get_to_write s (core_of x e) a ++ Exec (core_of x e) ∷ []) e t
      cas_turn a r o is =
          let c : ℕ = core_of x e in
          let b : ℕ = next_number x s e in
          let op : Op = Cas a ((r + 1) % 2 ^ 32) 0 in
          let empty : buffer_of s c ≡ [] = is_emptied ready plain (ap is_plain_load is) in
          write_turn a op (ap op_of is) (address_there op (ap op_of is)) (λ caches own.
          let u : State = with_caches s caches in
          let made = write_made caches c a (rmw_value u c (Swap a 0) a) b own in
          cas_did capacity u made.0 c b a ((r + 1) % 2 ^ 32) 0 empty own made.1)

      -- a load takes its turn
      pub load_turn : (a r : ℕ) (o : Option ℕ) → event_at x e ≡ L a r o
          → (t : State) × IsTurn (program_of x) n capacity s
          (get_to_read s (core_of x e) a (youngest (buffer_of s (core_of x e)) a) ++ Exec (core_of x e) ∷ [])
          e t
      load_turn a r o is =
          let c : ℕ = core_of x e in
          let b : ℕ = next_number x s e in
          let found : Option Entry = youngest (buffer_of s c) a in
          let got = fetch_read (program_of x) n capacity s f c a core (address_there (Ld a) (ap op_of is)) found in
          let u : State = with_caches s got.0 in
          executed (get_to_read s c a found) got.0 (Ld a) (advanced (performed (with_read u b got.2.0) b) c) got.1
          (few_read s c a found) (ap op_of is)
          (ap (or_blocked B4 (λ what. advanced (performed (with_read u b what) b) c)) got.2.1) refl refl

    -- a store that is executed takes its turn
    pub drain_turn : (a w : ℕ) → event_at x e ≡ S a w
        → e < next_number x s e
        → (t : State) × IsTurn (program_of x) n capacity s
        (get_to_write s (core_of x e) a ++ Drain (core_of x e) ∷ []) e t
    drain_turn a w is done = go (oldest (ap is_plain_store is) (ap is_plain_load is) done)
      where
        go : (o : (y : Entry) × (ys : List Entry) × (buffer_of s (core_of x e) ≡ y ∷ ys) × (y.event ≡ e))
            → (t : State) × IsTurn (program_of x) n capacity s
            (get_to_write s (core_of x e) a ++ Drain (core_of x e) ∷ []) e t
        go (y, ys, waits_first, one) =
            let p : List (List Op) = program_of x in
            let c : ℕ = core_of x e in
            let entry : AreStores p c (y ∷ ys) =
            subst (λ (b : List Entry). AreStores p c b) waits_first ((f.on []).stores c) in
            let op : St a w ≡ St y.addr y.value =
            sym (ap op_of is) ∙ (sym (ap (λ (z : ℕ × Op). z.1) (placed_is x e))
            ∙ (ap (λ (k : ℕ). (placed_op p k).1) (sym one) ∙ ap (λ (z : ℕ × Op). z.1) entry.0)) in
            let at : a ≡ y.addr = cc in
            let got = fetch_write p n capacity s f c a core (address_there (St a w) (ap op_of is)) in
            let u : State = with_caches s got.0 in
            let made = write_made got.0 c y.addr y.value y.event
            (subst (λ (k : ℕ). is_exclusive (moesi.line_of got.0 c k) ≡ true) at got.2) in
            let t : State = drained_state u made.0 c y ys in
            let took : step_result p capacity fault.None u (Drain c) ≡ Ok t =
            drain_taken p capacity u made.0 c y ys core waits_first made.1 in (
              t,
              record {
                goes = goes_on p capacity s u t (get_to_write s c a) (Drain c ∷ []) got.1.0
                    (goes_one p capacity u t (Drain c) took);
                fits = goes_further p n capacity u t (Drain c) got.1.1 took;
                performed = ap (λ (k : ℕ). s.performed ++ k ∷ []) one;
                few = omega (arith, few_write s c a, length-append (get_to_write s c a) (Drain c ∷ []));
              },
            )

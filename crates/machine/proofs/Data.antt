-- Each value in a line, in memory, in a buffer or read is one that an executed write of its address
-- wrote, so a complete state's recording is well formed.
use Rattle.std.proofs.Common.{◌≡◌, ◌≢◌, ◌<◌, ◌≤◌, ◌+◌, ◌⊎◌, inl, inr, ℕ, Bool, cond, Option, Some, None}
use Rattle.std.proofs.Common.{Ok, List, [], ◌∷◌, ◌++◌, map, length, get_or, slice_index, slice_set, arith}
use Rattle.std.proofs.Common.{refl, sym, ap, subst, ◌∙◌, get_or-set_same, get_or-set_other}
use Rattle.std.specs.Prelude.{◌==◌}
use Rattle.std.specs.List.{All, filter}
use Rattle.std.proofs.lemmas.List.{get_or_past, map-append}
use Rattle.std.proofs.lemmas.Bool.{cases_eq, cases_lt, eq-eqb}
use Rattle.std.proofs.lemmas.Option.{same_Some}
use Rattle.program.specs.declared.op.Op.{Op}
use Rattle.program.specs.declared.op.Op.TheVariants.{St, Fence}
use Rattle.program.specs.Parts.{IsWithin}
use Rattle.recording.specs.Event.{written_address, source, value_read, value_written}
use Rattle.recording.specs.Execution.{placed_from, write_list, Reads, Writes}
use Rattle.recording.specs.Order.{times}
use Rattle.recording.specs.Tso.{Gives, IsWellFormed}
use Rattle.recording.specs.OrderLaws.{times_nil, times_here, times_append}
use Rattle.recording.specs.EventLaws.{Reads-event, Writes-event}
use Rattle.write_buffer.specs.declared.entry.Entry.{Entry}
use Rattle.write_buffer.specs.Buffer.{youngest, or_else}
use Rattle.machine.specs.declared.step.Step.{Step}
use Rattle.moesi.specs.State as moesi
use Rattle.moesi.proofs.OriginLemmas.{every_copy_was_there, every_write_adds_itself}
use Rattle.program.specs.declared.fault.Fault.{Fault}
use Rattle.machine.specs.Faults.{forwarded}
use Rattle.machine.specs.State.{State, place_of, buffer_of, line_copy, first_event, recorded, opening, IsComplete}
use Rattle.program_events.specs.ProgramOf.{event_of}
use Rattle.machine.specs.Step.{with_caches, forwarded_or_read, looked_up, rmw_value, run}
use Rattle.machine.specs.Orderly.{EveryRunIsWellFormed}
use Rattle.machine.proofs.Cached.{read_has, written_read, opening_has}
use Rattle.machine.proofs.Static.{static_of, snapshot_of, placed_op, done_by, op_reads}
use Rattle.machine.proofs.Newest.{times_passes, times_filter}
use Rattle.machine.proofs.WriteLists.{writes_to, is_address_true, is_address_back, pair_one}
use Rattle.machine.proofs.DrainEvents.{AreStores, stores_out, drained_state}
use Rattle.machine.proofs.Removed.{forwarded_youngest}
use Rattle.machine.proofs.Loads.{not_equal}
use Rattle.machine.proofs.ExecuteEvents.{IsNext, next_placed, next_old}
use Rattle.machine.proofs.Rows.{IsKept, IsRmw, IsLook, stored_state, loaded_state, rmw_state, run_kept}
use Rattle.machine.proofs.Steady.{IsSteady, next_within, drain_steady, store_steady, look_steady, rmw_steady}
use Rattle.machine.proofs.Steady.{transact_steady}
use Rattle.machine.proofs.Opening.{nothing_executed, opening_steady}
use Rattle.machine.specs.RecordedLaws.{event_is, count_is}
use Rattle.program_events.specs.ProgramLaws.{value_same}
use Rattle.machine.proofs.Complete.{list_is, writes_is, reads_is, all_done, complete_listed}

-- the value is the initial one, or the source is an executed write of it to the address
abbrev pub IsGiven : List (List Op) → State → ℕ → Option ℕ → ℕ → Type 0
IsGiven p s a None v = v ≡ slice_index s.initial a
IsGiven p s a (Some w) v =
    (w < (snapshot_of p s).next ((static_of p s).core w)) × (written_address (done_by p s w) ≡ Some a)
    × (value_written (done_by p s w) ≡ v)

-- a pair of a value and its source is given
abbrev pub IsPairGiven : List (List Op) → State → ℕ → ℕ × Option ℕ → Type 0
IsPairGiven p s a d = IsGiven p s a d.1 d.0

-- what lines and memory hold and executed events read was given
pub record IsData (p : List (List Op)) (s : State) : Type 0 where
  pub steady : IsSteady p s
  pub copies : (a : ℕ) (copy : ℕ × Option ℕ) → moesi.Has s.caches a copy → IsPairGiven p s a copy
  pub reads : (e a : ℕ) → e < (snapshot_of p s).next ((static_of p s).core e)
      → op_reads (placed_op p e).1 ≡ Some a → IsPairGiven p s a (get_or s.reads e (0, None))

-- an event that is executed now changes nothing that others gave
given_kept : (p : List (List Op)) (s t : State) (b : ℕ) → (snapshot_of p s).next ((static_of p s).core b) ≡ b
    → ((e : ℕ) → e ≢ b → get_or t.reads e (0, None) ≡ get_or s.reads e (0, None))
    → ((c : ℕ) → place_of s c ≤ place_of t c) → s.initial ≡ t.initial → (a : ℕ) (o : Option ℕ) (v : ℕ)
    → IsGiven p s a o v → IsGiven p t a o v
given_kept p s t b new same up init a None v h = h ∙ ap (λ (l : List ℕ). slice_index l a) init
given_kept p s t b new same up init a (Some w) v h =
    let other : w ≢ b =
    λ is. omega (arith, h.0, ap (λ (e : ℕ). (snapshot_of p s).next ((static_of p s).core e)) is, new, is)
    in
    let does : done_by p t w ≡ done_by p s w = ap (event_of (placed_op p w).1) (same w other) in (
      omega (arith, h.0, up ((static_of p s).core w)),
      ap written_address does ∙ h.1,
      ap value_written does
          ∙ h.2,
    )

-- an event that wrote, executed as far as t goes
written_given : (p : List (List Op)) (t : State) (w c a v : ℕ) (op : Op) → placed_op p w ≡ (c, op)
    → w < (snapshot_of p t).next c
    → written_address (event_of op (get_or t.reads w (0, None))) ≡ Some a
    → value_written (event_of op (get_or t.reads w (0, None))) ≡ v → IsGiven p t a (Some w) v
written_given p t w c a v op is executed address value =
    let does : done_by p t w ≡ event_of op (get_or t.reads w (0, None)) =
    ap (λ (z : ℕ × Op). event_of z.1 (get_or t.reads w (0, None))) is in (
      subst (λ (k : ℕ). w < (snapshot_of p t).next k) (sym (ap (λ (z : ℕ × Op). z.0) is)) executed,
      ap written_address does ∙ address,
      ap value_written does ∙ value,
    )

-- the youngest entry of an address is a store to it that waits
youngest_is : (p : List (List Op)) (c : ℕ) (b : List Entry) (a : ℕ) (y : Entry) → AreStores p c b
    → youngest b a ≡ Some y
    → (placed_op p y.event ≡ (c, St a y.value)) × (0 < times (map (λ (x : Entry). x.event) b) y.event)
youngest_is p c [] a y stores is = absurd cc
youngest_is p c (x ∷ xs) a y stores is =
    go (λ later. youngest_is p c xs a y stores.1 later) (youngest xs a) refl is
  where
    more : 0 < times (map (λ (z : Entry). z.event) xs) y.event
        → 0 < times (map (λ (z : Entry). z.event) (x ∷ xs)) y.event
    more h = omega (arith, h, times_append (x.event ∷ []) (map (λ (z : Entry). z.event) xs) y.event)

    go : (youngest xs a ≡ Some y → (placed_op p y.event ≡ (c, St a y.value))
        × (0 < times (map (λ (z : Entry). z.event) xs) y.event))
        → (found : Option Entry) → youngest xs a ≡ found
        → or_else found (cond (x.addr == a) (Some x) None) ≡ Some y
        → (placed_op p y.event ≡ (c, St a y.value))
        × (0 < times (map (λ (z : Entry). z.event) (x ∷ xs)) y.event)
    go later (Some z) at one = ((later (at ∙ one)).0, more (later (at ∙ one)).1)
    go later None at one = elim (cases_eq x.addr a) [
      | inl here ↦
          let same_as : x ≡ y =
          same_Some x y (subst (λ (t : Bool). cond t (Some x) None ≡ Some y) (eq-eqb x.addr a here) one) in (
            rw (← same_as) (stores.0 ∙ ap (λ (k : ℕ). (c, St k x.value)) here),
            omega (
              arith,
              times_here (map (λ (z : Entry). z.event) xs) x.event y.event
                  (ap (λ (z : Entry). z.event) same_as),
            ),
          )
      | inr other ↦ absurd (let clash : None ≡ Some y =
          subst (λ (t : Bool). cond t (Some x) None ≡ Some y) (not_equal x.addr a other) one in cc)
    ]

module _ {p : List (List Op)} {s : State} (d : IsData p s) where
  -- what waits was executed
  executed_in : (c e : ℕ) → 0 < times (map (λ (x : Entry). x.event) (buffer_of s c)) e
      → e < (snapshot_of p s).next ((static_of p s).core e)
  executed_in c e there =
      (d.steady.counted.executed c e (omega
      (arith, there, times_append s.performed (map (λ (x : Entry). x.event) (buffer_of s c)) e))).1

  -- a waiting store was executed as far as its core goes
  waits_executed : (c : ℕ) (x : Entry) → placed_op p x.event ≡ (c, St x.addr x.value)
      → 0 < times (map (λ (y : Entry). y.event) (buffer_of s c)) x.event → x.event < (snapshot_of p s).next c
  waits_executed c x op there =
      subst (λ (k : ℕ). x.event < (snapshot_of p s).next k) (ap (λ (z : ℕ × Op). z.0) op)
      (executed_in c x.event there)

  -- what a load gets is given
  loaded_given : (f : Fault) (c a : ℕ) (what : ℕ × Option ℕ) → looked_up f s c a ≡ Ok what
      → IsPairGiven p s a what
  loaded_given f c a what = go (forwarded f (buffer_of s c) a) refl
    where
      go : (o : Option Entry) → forwarded f (buffer_of s c) a ≡ o
          → forwarded_or_read o (moesi.read s.caches c a) ≡ Ok what → IsPairGiven p s a what
      go None is got = d.copies a what (read_has s.caches c a what got)
      go (Some y) is got =
          let at = youngest_is p c (buffer_of s c) a y (d.steady.stores c)
          (forwarded_youngest f (buffer_of s c) a y is) in
          rw (← pair_one (y.value, Some y.event) what got) (written_given p s y.event c a y.value (St a y.value) at.0
          (subst (λ (k : ℕ). y.event < (snapshot_of p s).next k) (ap (λ (z : ℕ × Op). z.0) at.0)
          (executed_in c y.event at.1)) refl refl)

  -- caches where one address was written by an event that gave its value
  copies_given : (t : State) (caches : moesi.CacheState) (c a b v : ℕ)
      → moesi.write s.caches c a v b ≡ Ok caches → IsGiven p t a (Some b) v
      → ((k : ℕ) (copy : ℕ × Option ℕ) → moesi.Has s.caches k copy → IsPairGiven p t k copy)
      → (k : ℕ) (copy : ℕ × Option ℕ) → moesi.Has caches k copy → IsPairGiven p t k copy
  copies_given t caches c a b v wrote gave old k copy h =
      elim (every_write_adds_itself s.caches caches c a v b k copy wrote h) [
        | inl was ↦ old k copy was
        | inr new ↦ rw new.0 (subst (λ (z : ℕ × Option ℕ). IsPairGiven p t a z) (sym new.1) gave)
      ]

  -- a drain keeps the data
  drain_data : (caches : moesi.CacheState) (c : ℕ) (x : Entry) (front back : List Entry) → c < length p
      → buffer_of s c ≡ front ++ x ∷ back
      → moesi.write s.caches c x.addr x.value x.event ≡ Ok caches
      → IsData p (drained_state s caches c x (front ++ back))
  drain_data caches c x front back at is wrote =
      let here = stores_out p c front x back
      (subst (λ (b : List Entry). AreStores p c b) is (d.steady.stores c)) in
      let waits : 0 < times (map (λ (y : Entry). y.event) (buffer_of s c)) x.event =
      rw is (subst (λ (l : List ℕ). 0 < times l x.event)
      (sym (map-append (λ (y : Entry). y.event) front (x ∷ back)))
      (omega (
        arith,
        times_append (map (λ (y : Entry). y.event) front)
            (x.event ∷ map (λ (y : Entry). y.event) back) x.event,
        times_here (map (λ (y : Entry). y.event) back) x.event x.event refl,
      ))) in
      let gave : IsGiven p s x.addr (Some x.event) x.value =
      written_given p s x.event c x.addr x.value (St x.addr x.value) here.0
      (waits_executed c x here.0 waits) refl refl in
      record {
        steady = drain_steady d.steady caches c x front back at is wrote;
        copies = copies_given s caches c x.addr x.event x.value wrote gave d.copies;
        reads = d.reads;
      }

  module _ {c b : ℕ} {op : Op} (n : IsNext p s c b op) where
    -- no core goes back
    up : (k : ℕ) → place_of s k ≤ get_or (slice_set s.places c (place_of s c + 1)) k 0
    up k = elim (cases_eq k c) [
      | inl same ↦ rw same (omega (arith, get_or-set_same s.places c (place_of s c + 1) 0 n.core))
      | inr other ↦ omega (arith, get_or-set_other s.places c k (place_of s c + 1) 0 other)
    ]

    -- what was given before core c goes on is given after it
    go_on : (t : State) → t.places ≡ slice_set s.places c (place_of s c + 1)
        → ((e : ℕ) → e ≢ b → get_or t.reads e (0, None) ≡ get_or s.reads e (0, None))
        → s.initial ≡ t.initial → (a : ℕ) (o : Option ℕ) (v : ℕ) → IsGiven p s a o v → IsGiven p t a o v
    go_on t places reads init =
        given_kept p s t b (next_old n) reads (λ k. rw places (up k)) init

    -- what was executed by then, other than b, was executed before
    earlier : (t : State) → t.places ≡ slice_set s.places c (place_of s c + 1) → (e : ℕ) → e ≢ b
        → e < (snapshot_of p t).next ((static_of p t).core e)
        → e < (snapshot_of p s).next ((static_of p s).core e)
    earlier t places e other done = elim (cases_eq ((placed_op p e).0) c) [
      | inl own ↦
          let past : e < b + 1 = omega (
            arith,
            n.event,
            subst (λ (k : ℕ). e < first_event p k + get_or t.places k 0) own done,
            ap (λ (l : List ℕ). get_or l c 0) places,
            get_or-set_same s.places c (place_of s c + 1) 0 n.core,
          ) in
          subst (λ (k : ℕ). e < first_event p k + place_of s k) (sym own) (elim (cases_lt e b) [
            | inl below ↦ omega (arith, below, n.event)
            | inr after ↦ absurd (other (omega (arith, past, after)))
          ])
      | inr away ↦ omega (
        arith,
        done,
        ap (λ (l : List ℕ). get_or l ((placed_op p e).0) 0) places,
        get_or-set_other s.places c ((placed_op p e).0) (place_of s c + 1) 0 away,
      )
    ]

    -- what events read where b, if it reads, has read a pair that was given
    read_given : (t : State) (what : ℕ × Option ℕ)
        → ((k : ℕ) → op_reads op ≡ Some k → IsPairGiven p s k what)
        → t.places ≡ slice_set s.places c (place_of s c + 1) → t.reads ≡ slice_set s.reads b what
        → s.initial ≡ t.initial → (e k : ℕ) → e < (snapshot_of p t).next ((static_of p t).core e)
        → op_reads (placed_op p e).1 ≡ Some k → IsPairGiven p t k (get_or t.reads e (0, None))
    read_given t what was places reads init e k done r =
        let keep : (k : ℕ) (o : Option ℕ) (v : ℕ) → IsGiven p s k o v → IsGiven p t k o v =
        go_on t places (λ f other. ap (λ (l : List (ℕ × Option ℕ)). get_or l f (0, None)) reads
        ∙ get_or-set_other s.reads b f what (0, None) other) init in
        elim (cases_eq e b) [
          | inl is_b ↦
              let own : op_reads op ≡ Some k = sym (ap (λ (z : ℕ × Op). op_reads z.1) (next_placed n))
              ∙ (ap (λ (z : ℕ). op_reads (placed_op p z).1) (sym is_b) ∙ r) in
              subst (λ (z : ℕ). IsPairGiven p t k (get_or t.reads z (0, None))) (sym is_b)
              (subst (λ (l : List (ℕ × Option ℕ)). IsPairGiven p t k (get_or l b (0, None))) (sym reads)
              (subst (λ (z : ℕ × Option ℕ). IsPairGiven p t k z)
              (sym (get_or-set_same s.reads b what (0, None) (next_within d.steady n)))
              (keep k what.1 what.0 (was k own))))
          | inr other ↦
              subst (λ (l : List (ℕ × Option ℕ)). IsPairGiven p t k (get_or l e (0, None))) (sym reads)
              (subst (λ (z : ℕ × Option ℕ). IsPairGiven p t k z)
              (sym (get_or-set_other s.reads b e what (0, None) other))
              (keep k _ _ (d.reads e k (earlier t places e other done) r)))
        ]

  -- a store keeps the data
  store_data : (c b a v : ℕ) → IsNext p s c b (St a v) → c < length p → IsData p (stored_state s c b a v)
  store_data c b a v n at =
      let t : State = stored_state s c b a v in
      let keep : (k : ℕ) (o : Option ℕ) (w : ℕ) → IsGiven p s k o w → IsGiven p t k o w =
      go_on n t refl (λ e other. refl) refl in
      record {
        steady = store_steady d.steady n at;
        copies = λ k copy h. keep k _ _ (d.copies k copy h);
        reads = λ e k done r. keep k _ _ (d.reads e k (earlier n t refl e (λ is. let clash : None ≡ Some k =
            sym (ap (λ (z : ℕ × Op). op_reads z.1) (ap (placed_op p) is ∙ next_placed n)) ∙ r in cc) done) r);
      }

  -- an event that writes nothing keeps the data
  look_data : (f : Fault) (c b : ℕ) (op : Op) (what : ℕ × Option ℕ) → IsNext p s c b op → IsLook f s c op what
      → IsData p (loaded_state s c b what)
  look_data f c b op what n is =
      let t : State = loaded_state s c b what in
      record {
        steady = look_steady d.steady n is;
        copies = λ k copy h. go_on n t refl
            (λ e other. get_or-set_other s.reads b e what (0, None) other) refl k _ _ (d.copies k copy h);
        reads = read_given n t what (λ k reads. elim (is.got k reads) [
          | inl got ↦ loaded_given f c k what got
          | inr got ↦ d.copies k what (read_has s.caches c k what got.1)
        ]) refl refl refl;
      }

  -- a read-modify-write keeps the data
  rmw_data : (caches : moesi.CacheState) (c b a : ℕ) (op : Op) → IsNext p s c b op
      → IsRmw op (line_copy s c a) a
      → moesi.write s.caches c a (rmw_value s c op a) b ≡ Ok caches → IsData p (rmw_state s caches c b a)
  rmw_data caches c b a op n is wrote =
      let t : State = rmw_state s caches c b a in
      let what : ℕ × Option ℕ = line_copy s c a in
      let value : ℕ = rmw_value s c op a in
      let read : get_or t.reads b (0, None) ≡ what =
      get_or-set_same s.reads b what (0, None) (next_within d.steady n) in
      let gave : IsGiven p t a (Some b) value =
      written_given p t b c a value op (next_placed n)
      (omega (arith, n.event, get_or-set_same s.places c (place_of s c + 1) 0 n.core))
      (ap (λ (z : ℕ × Option ℕ). written_address (event_of op z)) read ∙ is.address)
      (ap (λ (z : ℕ × Option ℕ). value_written (event_of op z)) read) in
      record {
        steady = rmw_steady d.steady n is wrote;
        copies = copies_given t caches c a b value wrote gave (λ k copy h. go_on n t refl
            (λ e other. get_or-set_other s.reads b e what (0, None) other) refl k _ _ (d.copies k copy h));
        reads = read_given n t what (λ k reads. subst (λ (z : ℕ). IsPairGiven p s z what)
            (same_Some a k (sym is.reads ∙ reads))
            (d.copies a what (read_has s.caches c a what (written_read s.caches caches c a value b wrote))))
            refl refl refl;
      }

  -- what was given is given after a transaction
  given_same : (caches : moesi.CacheState) (k : ℕ) (copy : ℕ × Option ℕ) → IsPairGiven p s k copy
      → IsPairGiven p (with_caches s caches) k copy
  given_same caches k (v, None) h = h
  given_same caches k (v, Some w) h = h

  -- each row keeps the data, under every fault
  pub data_kept : (f : Fault) → IsKept p f s (IsData p)
  data_kept f = record {
    drain = λ caches c x front back at is first wrote. drain_data caches c x front back at is wrote;
    store = store_data;
    look = look_data f;
    rmw = λ caches c b a op n at is empty wrote. rmw_data caches c b a op n is wrote;
    transact = λ caches c a at within made sound. record {
      steady = transact_steady d.steady caches c a made;
      copies = λ k copy h. given_same caches k copy
          (d.copies k copy (every_copy_was_there s.caches caches c a k copy made h));
      reads = λ e k done r. given_same caches k (get_or s.reads e (0, None)) (d.reads e k done r);
    };
  }

-- the opening state has only initial values
opening_data : (p : List (List Op)) (init : List ℕ) → All (λ ops. All (IsWithin (length init)) ops) p
    → IsData p (opening p init)
opening_data p init fits = record {
  steady = opening_steady p init fits;
  copies = λ a copy h. rw (opening_has (length p) init a copy h) refl;
  reads = λ e a done r. elim (cases_lt e (static_of p (opening p init)).count) [
    | inl event ↦ absurd (nothing_executed p init fits e event done)
    | inr past ↦ absurd (let clash : None ≡ Some a =
        sym (ap (λ (z : ℕ × Op). op_reads z.1) (get_or_past (placed_from 0 p) e (0, Fence) past)) ∙ r in cc)
  ];
}

-- every run has its data from executed writes, under every fault
pub run_data : (p : List (List Op)) (init : List ℕ) (capacity : ℕ) (f : Fault) (steps : List Step)
    → All (λ ops. All (IsWithin (length init)) ops) p → IsData p (run p capacity f (opening p init) steps)
run_data p init capacity f steps fits =
    run_kept p capacity f (IsData p) (λ s d. (data_kept d f, d.steady.places)) steps (opening p init)
    (opening_data p init fits)

-- Well-formedness

-- what is given is what the recording asks of a source
gives : (p : List (List Op)) (s : State) (a : ℕ) (o : Option ℕ) (v : ℕ) → IsGiven p s a o v
    → Gives (recorded p s) a o v
gives p s a None v h = h
gives p s a (Some w) v h =
    (ap written_address (event_is p s w) ∙ h.1, ap value_written (event_is p s w) ∙ h.2)

module _ (p : List (List Op)) (s : State) (d : IsData p s) (end : IsComplete p s) where
  -- the write list of an address of the program
  list_at : (a : ℕ) → a < length s.caches.blocks
      → write_list (recorded p s) a ≡ filter (writes_to p s a) s.performed
  list_at a inside = list_is p s a ∙ d.steady.listed.lists a inside

  -- there is no other write list
  list_past : (a : ℕ) → length s.caches.blocks ≤ a → write_list (recorded p s) a ≡ []
  list_past a past =
      list_is p s a ∙ get_or_past s.write_lists a [] (omega (arith, past, d.steady.listed.cells))

  -- events write addresses of the program
  writes_inside : (e a : ℕ) → (static_of p s).writes e ≡ Some a → a < length s.caches.blocks
  writes_inside e a writes = d.steady.writes_within e a (get_or s.reads e (0, None)) writes

  -- each write stands once in the list of its address
  once : (a e : ℕ) → Writes (recorded p s) e a → times (write_list (recorded p s) a) e ≡ 1
  once a e writes =
      let wrote : (static_of p s).writes e ≡ Some a = sym (writes_is p s e) ∙ writes in
      subst (λ (l : List ℕ). times l e ≡ 1) (sym (list_at a (writes_inside e a wrote)))
      (times_filter (writes_to p s a) s.performed e (is_address_back ((static_of p s).writes e) a wrote)
      ∙ (complete_listed p s end d.steady).once e (Writes-event (recorded p s) e a writes))

  -- nothing else stands there
  nothing_else : (a e : ℕ) → 0 < times (write_list (recorded p s) a) e → Writes (recorded p s) e a
  nothing_else a e there = elim (cases_lt a (length s.caches.blocks)) [
    | inl inside ↦ writes_is p s e
        ∙ is_address_true ((static_of p s).writes e) a
        (times_passes (writes_to p s a) s.performed e (subst (λ (l : List ℕ). 0 < times l e) (list_at a inside) there))
    | inr past ↦ absurd (omega (
      arith,
      subst (λ (l : List ℕ). 0 < times l e) (list_past a past) there,
      times_nil e,
    ))
  ]

  -- the recording of a complete state is well formed
  pub complete_well_formed : IsWellFormed (recorded p s)
  complete_well_formed = record {
    sources = λ e a reads.
        let op : op_reads (placed_op p e).1 ≡ Some a = sym (reads_is p s e) ∙ reads in
        let same = value_same (placed_op p e).1 (get_or s.reads e (0, None)) a op in
        rw (ap source (event_is p s e) ∙ same.0)
        (rw (ap value_read (event_is p s e) ∙ same.1)
        (gives p s a (get_or s.reads e (0, None)).1 (get_or s.reads e (0, None)).0 (d.reads e a
        ((all_done p s end).done e (omega (arith, Reads-event (recorded p s) e a reads, count_is p s))) op)));
    write_lists =
        λ a. record { once = λ e writes. once a e writes; nothing_else = λ e there. nothing_else a e there };
  }

  -- each address that an event of the recording uses has a write list
  pub complete_addresses : (e a : ℕ) → Reads (recorded p s) e a ⊎ Writes (recorded p s) e a
      → a < length s.write_lists
  complete_addresses e a used = elim used [
    | inl reads ↦ omega (
      arith,
      d.steady.reads_within e a (sym (reads_is p s e) ∙ reads),
      d.steady.listed.cells,
    )
    | inr writes ↦ omega (arith, writes_inside e a (sym (writes_is p s e) ∙ writes), d.steady.listed.cells)
  ]

-- every complete run has a well-formed recording, under every fault
pub every_run_is_well_formed : (p : List (List Op)) (init : List ℕ) (capacity : ℕ) (f : Fault)
    (steps : List Step) → EveryRunIsWellFormed p init capacity f steps
every_run_is_well_formed p init capacity f steps fits end =
    complete_well_formed p (run p capacity f (opening p init) steps)
    (run_data p init capacity f steps fits) end

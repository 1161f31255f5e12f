-- What every step keeps whatever it reads: the count of events, the write lists, and that what waits are
-- plain stores.
use Rattle.std.proofs.Common.{◌≡◌, ◌<◌, ◌≤◌, ◌+◌, inl, inr, ℕ, Option, Some, None, Ok, List, [], ◌∷◌, ◌++◌}
use Rattle.std.proofs.Common.{map, length, get_or, slice_set, arith, refl, sym, ap, subst, ◌∙◌}
use Rattle.std.proofs.Common.{get_or-set_same, get_or-set_other, length-set}
use Rattle.std.proofs.lemmas.Bool.{cases_eq}
use Rattle.program.specs.declared.op.Op.{Op}
use Rattle.program.specs.declared.op.Op.TheVariants.{St}
use Rattle.recording.specs.Event.{written_address}
use Rattle.recording.specs.Order.{times}
use Rattle.recording.specs.OrderLaws.{times_append, cases_times}
use Rattle.write_buffer.specs.declared.entry.Entry.{Entry}
use Rattle.moesi.specs.State as moesi
use Rattle.moesi.specs.Laws.{IsAnyTransaction}
use Rattle.program.specs.declared.fault.Fault.{Fault}
use Rattle.machine.specs.State.{State, place_of, buffer_of, line_copy}
use Rattle.program_events.specs.ProgramOf.{event_of}
use Rattle.machine.specs.Step.{performed, with_read, written, with_buffer, with_caches, rmw_value}
use Rattle.machine.proofs.Cached.{written_large, any_large}
use Rattle.machine.proofs.Seen.{seen, IsCounted, not_seen, not_performed}
use Rattle.machine.proofs.Static.{static_of, snapshot_of, placed_op, done_by, op_reads}
use Rattle.machine.proofs.DrainEvents.{AreStores, stores_out, drained_state, drain_counted}
use Rattle.machine.proofs.ExecuteEvents.{IsNext, next_placed, next_event, next_old, perform_counted, issue_counted}
use Rattle.machine.proofs.WriteLists.{AreListed, listed_given, listed_written, listed_performed}
use Rattle.machine.proofs.Rows.{IsRmw, IsLook, stored_state, loaded_state, rmw_state}

-- what every step keeps, under every fault: the count, the write lists, that plain stores wait, and what
-- fits together
pub record IsSteady (p : List (List Op)) (s : State) : Type 0 where
  pub counted : IsCounted (static_of p s) (snapshot_of p s)
  pub listed : AreListed p s
  pub stores : (c : ℕ) → AreStores p c (buffer_of s c)
  pub places : length s.places ≡ length p
  pub cores : s.caches.cores ≡ length p
  pub buffers : length s.buffers ≡ length p
  pub reads : length s.reads ≡ (static_of p s).count
  pub writes_within : (e a : ℕ) (d : ℕ × Option ℕ) → written_address (event_of (placed_op p e).1 d) ≡ Some a
      → a < length s.caches.blocks
  pub reads_within : (e a : ℕ) → op_reads (placed_op p e).1 ≡ Some a → a < length s.caches.blocks

-- one more waiting store
stores_push : (p : List (List Op)) (c : ℕ) (l : List Entry) (x : Entry) → AreStores p c l
    → placed_op p x.event ≡ (c, St x.addr x.value) → AreStores p c (l ++ x ∷ [])
stores_push p c [] x h is = (is, tt)
stores_push p c (y ∷ ys) x h is = (h.0, stores_push p c ys x h.1 is)

module _ {p : List (List Op)} {s : State} (g : IsSteady p s) where
  -- an event is performed at most once
  pub once : (e : ℕ) → times s.performed e ≤ 1
  once e = elim (cases_times s.performed e) [
    | inl none ↦ omega (arith, none)
    | inr there ↦
        let was : (e < (static_of p s).count) × (e < (snapshot_of p s).next ((static_of p s).core e)) =
        g.counted.executed 0 e (omega (
          arith,
          there,
          times_append s.performed (map (λ (x : Entry). x.event) (buffer_of s 0)) e,
        )) in
        omega (
          arith,
          g.counted.listed e was.0 was.1,
          times_append s.performed (map (λ (x : Entry). x.event) (buffer_of s ((static_of p s).core e))) e,
        )
  ]

  -- what waits was not performed, and waits once
  pub waits_once : (c e : ℕ) → 0 < times (map (λ (x : Entry). x.event) (buffer_of s c)) e
      → times s.performed e + times (map (λ (x : Entry). x.event) (buffer_of s c)) e ≡ 1
  waits_once c e there =
      let core : (static_of p s).core e ≡ c = (g.counted.waiting c e there).0 in
      let was : (e < (static_of p s).count) × (e < (snapshot_of p s).next ((static_of p s).core e)) =
      g.counted.executed c e (omega (
        arith,
        there,
        times_append s.performed (map (λ (x : Entry). x.event) (buffer_of s c)) e,
      )) in
      let one : times (seen (snapshot_of p s) c) e ≡ 1 =
      subst (λ (d : ℕ). times (seen (snapshot_of p s) d) e ≡ 1) core (g.counted.listed e was.0 was.1) in
      omega (arith, one, times_append s.performed (map (λ (x : Entry). x.event) (buffer_of s c)) e)

  -- nothing waits twice
  pub waiting_once : (c e : ℕ) → times (map (λ (x : Entry). x.event) (buffer_of s c)) e ≤ 1
  waiting_once c e = elim (cases_times (map (λ (x : Entry). x.event) (buffer_of s c)) e) [
    | inl none ↦ omega (arith, none)
    | inr there ↦ omega (arith, waits_once c e there)
  ]

  -- where one core has other stores in its buffer, plain stores wait
  stores_set : (c : ℕ) (l : List Entry) → c < length s.buffers → AreStores p c l → (d : ℕ)
      → AreStores p d (get_or (slice_set s.buffers c l) d [])
  stores_set c l inside all d = elim (cases_eq d c) [
    | inl own ↦ rw own (subst (λ (b : List Entry). AreStores p c b) (sym (get_or-set_same s.buffers c l [] inside)) all)
    | inr other ↦ rw (get_or-set_other s.buffers c d l [] other) (g.stores d)
  ]

  -- a drain keeps it
  pub drain_steady : (caches : moesi.CacheState) (c : ℕ) (x : Entry) (front back : List Entry) → c < length p
      → buffer_of s c ≡ front ++ x ∷ back
      → moesi.write s.caches c x.addr x.value x.event ≡ Ok caches
      → IsSteady p (drained_state s caches c x (front ++ back))
  drain_steady caches c x front back at is wrote =
      let xs : List Entry = front ++ back in
      let large = written_large s.caches caches c x.addr x.value x.event wrote in
      let all : AreStores p c (front ++ x ∷ back) =
      subst (λ (b : List Entry). AreStores p c b) is (g.stores c) in
      let here = stores_out p c front x back all in
      let inside : c < length s.buffers = omega (arith, at, g.buffers) in
      let writes : (d : ℕ × Option ℕ) → written_address (event_of (placed_op p x.event).1 d) ≡ Some x.addr =
      λ d. ap (λ (z : ℕ × Op). written_address (event_of z.1 d)) here.0 in
      let within : x.addr < length s.caches.blocks =
      g.writes_within x.event x.addr (0, None) (writes (0, None)) in
      let base : AreListed p (with_buffer s c xs) =
      record { cells = g.listed.cells; lists = g.listed.lists } in
      record {
        counted = drain_counted p s caches c x inside front back is all g.counted;
        listed = listed_written p (with_buffer s c xs) caches x.addr x.event large.blocks
            (writes (get_or s.reads x.event (0, None))) within base;
        stores = stores_set c xs inside here.1;
        places = g.places;
        cores = large.cores ∙ g.cores;
        buffers = length-set s.buffers c xs ∙ g.buffers;
        reads = g.reads;
        writes_within = λ e a d h. omega (arith, g.writes_within e a d h, large.blocks);
        reads_within = λ e a h. omega (arith, g.reads_within e a h, large.blocks);
      }

  -- a transaction keeps it
  pub transact_steady : (caches : moesi.CacheState) (c a : ℕ) → IsAnyTransaction s.caches c a caches
      → IsSteady p (with_caches s caches)
  transact_steady caches c a made =
      let large = any_large s.caches caches c a made in
      record {
        counted = g.counted;
        listed = record {
          cells = g.listed.cells ∙ sym large.blocks;
          lists = λ b inside. g.listed.lists b (omega (arith, inside, large.blocks));
        };
        stores = g.stores;
        places = g.places;
        cores = large.cores ∙ g.cores;
        buffers = g.buffers;
        reads = g.reads;
        writes_within = λ e k d h. omega (arith, g.writes_within e k d h, large.blocks);
        reads_within = λ e k h. omega (arith, g.reads_within e k h, large.blocks);
      }

  module _ {c b : ℕ} {op : Op} (n : IsNext p s c b op) where
    -- a core's next event was not performed
    pub next_fresh : times s.performed b ≡ 0
    next_fresh = not_performed (snapshot_of p s) 0 b
        (not_seen (static_of p s) (snapshot_of p s) g.counted b 0 (omega (arith, next_old n)))

    -- its number is among those that read
    pub next_within : b < length s.reads
    next_within = omega (arith, g.reads, next_event n)

    -- what it did, once it has read
    did : (what : ℕ × Option ℕ) → done_by p (with_read s b what) b ≡ event_of op what
    did what = ap (event_of (placed_op p b).1) (get_or-set_same s.reads b what (0, None) next_within)
        ∙ ap (λ (z : ℕ × Op). event_of z.1 what) (next_placed n)

    -- the address that it reads is one of the program's
    pub read_within : (a : ℕ) → op_reads op ≡ Some a → a < length s.caches.blocks
    read_within a reads = g.reads_within b a (ap (λ (z : ℕ × Op). op_reads z.1) (next_placed n) ∙ reads)

    -- an event that writes nothing keeps it
    pub look_steady : {f : Fault} {what : ℕ × Option ℕ} → IsLook f s c op what
        → IsSteady p (loaded_state s c b what)
    look_steady {f} {what} is =
        let kept : AreListed p (performed (with_read s b what) b) =
        listed_performed p (with_read s b what) b (ap written_address (did what) ∙ is.address)
        (listed_given p s b what next_fresh g.listed) in
        record {
          counted = perform_counted n (loaded_state s c b what) refl refl refl
              (λ e other. get_or-set_other s.reads b e what (0, None) other) g.counted;
          listed = record { cells = kept.cells; lists = kept.lists };
          stores = g.stores;
          places = length-set s.places c (place_of s c + 1) ∙ g.places;
          cores = g.cores;
          buffers = g.buffers;
          reads = length-set s.reads b what ∙ g.reads;
          writes_within = g.writes_within;
          reads_within = g.reads_within;
        }

    -- a read-modify-write keeps it
    pub rmw_steady : {caches : moesi.CacheState} {a : ℕ} → IsRmw op (line_copy s c a) a
        → moesi.write s.caches c a (rmw_value s c op a) b ≡ Ok caches → IsSteady p (rmw_state s caches c b a)
    rmw_steady {caches} {a} is wrote =
        let what : ℕ × Option ℕ = line_copy s c a in
        let large = written_large s.caches caches c a (rmw_value s c op a) b wrote in
        let kept : AreListed p (performed (written (with_read s b what) caches a b) b) =
        listed_written p (with_read s b what) caches a b large.blocks (ap written_address (did what) ∙ is.address)
        (read_within a is.reads) (listed_given p s b what next_fresh g.listed) in
        record {
          counted = perform_counted n (rmw_state s caches c b a) refl refl refl
              (λ e other. get_or-set_other s.reads b e what (0, None) other) g.counted;
          listed = record { cells = kept.cells; lists = kept.lists };
          stores = g.stores;
          places = length-set s.places c (place_of s c + 1) ∙ g.places;
          cores = large.cores ∙ g.cores;
          buffers = g.buffers;
          reads = length-set s.reads b what ∙ g.reads;
          writes_within = λ e k d h. omega (arith, g.writes_within e k d h, large.blocks);
          reads_within = λ e k h. omega (arith, g.reads_within e k h, large.blocks);
        }

  -- a store keeps it
  pub store_steady : {c b a v : ℕ} → IsNext p s c b (St a v) → c < length p → IsSteady p (stored_state s c b a v)
  store_steady {c} {b} {a} {v} n at =
      let entry : Entry = record { addr = a; value = v; event = b } in
      let inside : c < length s.buffers = omega (arith, at, g.buffers) in
      record {
        counted = issue_counted n (stored_state s c b a v) refl refl refl refl entry refl inside refl refl g.counted;
        listed = record { cells = g.listed.cells; lists = g.listed.lists };
        stores = stores_set c (buffer_of s c ++ entry ∷ []) inside
            (stores_push p c (buffer_of s c) entry (g.stores c) (next_placed n));
        places = length-set s.places c (place_of s c + 1) ∙ g.places;
        cores = g.cores;
        buffers = length-set s.buffers c (buffer_of s c ++ entry ∷ []) ∙ g.buffers;
        reads = g.reads;
        writes_within = g.writes_within;
        reads_within = g.reads_within;
      }

-- What every step keeps where no fault is at work: the order that TSO asks for, and that memory has the
-- last writes.
use Rattle.std.proofs.Common.{◌≡◌, ◌<◌, inl, inr, ℕ, Option, Some, None, Ok, List, [], ◌∷◌, ◌++◌, length, get_or}
use Rattle.std.proofs.Common.{slice_set, arith, refl, sym, ap, subst, ◌∙◌, get_or-set_same, get_or-set_other}
use Rattle.std.proofs.lemmas.Option.{same_Some}
use Rattle.program.specs.declared.op.Op.{Op}
use Rattle.recording.specs.Event.{written_address}
use Rattle.write_buffer.specs.declared.entry.Entry.{Entry}
use Rattle.write_buffer.specs.Buffer.{youngest}
use Rattle.moesi.specs.State as moesi
use Rattle.moesi.specs.Coherent.{IsCoherent}
use Rattle.moesi.proofs.CacheLemmas.{every_call_keeps_coherence, every_transaction_keeps_current}
use Rattle.moesi.proofs.CacheLemmas.{every_write_sets_current}
use Rattle.program.specs.declared.fault.Fault.TheVariants as fault
use Rattle.machine.specs.State.{State, buffer_of, line_copy}
use Rattle.program_events.specs.ProgramOf.{event_of}
use Rattle.machine.specs.Step.{with_read, with_buffer, forwarded_or_read, looked_up, rmw_value}
use Rattle.machine.proofs.Cached.{written_large, transaction_large, written_read}
use Rattle.machine.proofs.Seen.{seen, IsOrdered, IsNewest}
use Rattle.machine.proofs.Static.{static_of, snapshot_of, op_reads}
use Rattle.machine.proofs.DrainEvents.{AreStores, drained_state, drain_ordered}
use Rattle.machine.proofs.ExecuteEvents.{IsNext, perform_ordered, issue_ordered}
use Rattle.machine.proofs.WriteLists.{IsLatest, latest_written, loaded_newest}
use Rattle.machine.proofs.Rows.{IsKept, IsRmw, IsLook, stored_state, loaded_state, rmw_state}
use Rattle.machine.proofs.Steady.{IsSteady, once, waits_once, waiting_once, next_within, read_within, drain_steady}
use Rattle.machine.proofs.Steady.{store_steady, look_steady, rmw_steady, transact_steady}

-- what every step keeps without fault: TSO's order as each core sees it, that the caches are coherent,
-- and that each address has its last write
pub record IsInOrder (p : List (List Op)) (s : State) : Type 0 where
  pub steady : IsSteady p s
  pub ordered : IsOrdered (static_of p s) (snapshot_of p s)
  pub coherent : IsCoherent s.caches
  pub latest : IsLatest s

module _ {p : List (List Op)} {s : State} (g : IsInOrder p s) where
  -- a load of core c gets the newest write that the core sees
  newest : (c a : ℕ) (what : ℕ × Option ℕ) → a < length s.caches.blocks → looked_up fault.None s c a ≡ Ok what
      → IsNewest (static_of p s) (seen (snapshot_of p s) c) a what.1
  newest c a what at =
      loaded_newest p s c a what at g.steady.listed g.latest g.coherent (g.steady.stores c)
      (once g.steady) (waiting_once g.steady c)
      (λ e there. omega (arith, waits_once g.steady c e there, there))

  -- where nothing waits it gets what its line has
  unforwarded : (c a : ℕ) → buffer_of s c ≡ [] → looked_up fault.None s c a ≡ moesi.read s.caches c a
  unforwarded c a empty = ap (λ (l : List Entry). forwarded_or_read (youngest l a) (moesi.read s.caches c a)) empty

  -- a core of the program has lines
  core_within : (c : ℕ) → c < length p → c < s.caches.cores
  core_within c at = omega (arith, at, g.steady.cores)

  -- a drain of the oldest store keeps the order
  drain_in_order : (caches : moesi.CacheState) (c : ℕ) (x : Entry) (front back : List Entry) → c < length p
      → buffer_of s c ≡ front ++ x ∷ back → (fault.None ≡ fault.None → front ≡ [])
      → moesi.write s.caches c x.addr x.value x.event ≡ Ok caches
      → IsInOrder p (drained_state s caches c x (front ++ back))
  drain_in_order caches c x (y ∷ front) xs at is first wrote = absurd (let some : y ∷ front ≡ [] = first refl in cc)
  drain_in_order caches c x [] xs at is first wrote =
      let here : AreStores p c (x ∷ xs) =
      subst (λ (b : List Entry). AreStores p c b) is (g.steady.stores c) in
      let within : x.addr < length s.caches.blocks =
      g.steady.writes_within x.event x.addr (0, None)
      (ap (λ (z : ℕ × Op). written_address (event_of z.1 (0, None))) here.0) in
      record {
        steady = drain_steady g.steady caches c x [] xs at is wrote;
        ordered = drain_ordered p s caches c x (omega (arith, at, g.steady.buffers)) xs is here g.steady.counted
            g.ordered;
        coherent = every_call_keeps_coherence s.caches caches c x.addr x.value x.event g.coherent
            (core_within c at) within (inr wrote);
        latest = latest_written (with_buffer s c xs)
            caches x.addr x.value x.event within g.steady.listed.cells
            (written_large s.caches caches c x.addr x.value x.event wrote).blocks
            (λ b. every_write_sets_current s.caches caches c x.addr x.value x.event b g.coherent
            (core_within c at) within wrote) g.latest;
      }

  module _ (c b : ℕ) (op : Op) (what : ℕ × Option ℕ) (n : IsNext p s c b op) where
    -- what an event gets as a load does has the newest write as its source
    newest_read : ((a : ℕ) → op_reads op ≡ Some a → looked_up fault.None s c a ≡ Ok what)
        → (a : ℕ) → op_reads op ≡ Some a → IsNewest (static_of p s) (seen (snapshot_of p s) c) a
        (get_or (slice_set s.reads b what) b (0, None)).1
    newest_read got a reads =
        rw (get_or-set_same s.reads b what (0, None) (next_within g.steady n))
        (newest c a what (read_within g.steady n a reads) (got a reads))

    -- an event that writes nothing keeps the order
    look_in_order : IsLook fault.None s c op what → IsInOrder p (loaded_state s c b what)
    look_in_order is = record {
      steady = look_steady g.steady n is;
      ordered = perform_ordered n (loaded_state s c b what) refl refl refl
          (λ e other. get_or-set_other s.reads b e what (0, None) other) is.store (is.allowed refl)
          (newest_read (λ a reads. elim (is.got a reads) [
            | inl got ↦ got
            | inr got ↦ unforwarded c a (got.0 refl) ∙ got.1
          ])) g.steady.counted g.ordered;
      coherent = g.coherent;
      latest = g.latest;
    }

  -- a read-modify-write keeps the order
  rmw_in_order : (caches : moesi.CacheState) (c b a : ℕ) (op : Op) → IsNext p s c b op → c < length p
      → IsRmw op (line_copy s c a) a → (fault.None ≡ fault.None → buffer_of s c ≡ [])
      → moesi.write s.caches c a (rmw_value s c op a) b ≡ Ok caches → IsInOrder p (rmw_state s caches c b a)
  rmw_in_order caches c b a op n at is empty wrote =
      let what : ℕ × Option ℕ = line_copy s c a in
      let value : ℕ = rmw_value s c op a in
      let within : a < length s.caches.blocks = read_within g.steady n a is.reads in
      record {
        steady = rmw_steady g.steady n is wrote;
        ordered = perform_ordered n (rmw_state s caches c b a) refl refl refl
            (λ e other. get_or-set_other s.reads b e what (0, None) other) is.store (inr (empty refl))
            (newest_read c b op what n (λ k reads.
            subst (λ (z : ℕ). looked_up fault.None s c z ≡ Ok what) (same_Some a k (sym is.reads ∙ reads))
            (unforwarded c a (empty refl) ∙ written_read s.caches caches c a value b wrote)))
            g.steady.counted g.ordered;
        coherent = every_call_keeps_coherence s.caches caches c a value b g.coherent (core_within c at) within
            (inr wrote);
        latest = latest_written (with_read s b what) caches a value b within g.steady.listed.cells
            (written_large s.caches caches c a value b wrote).blocks
            (λ k. every_write_sets_current s.caches caches c a value b k g.coherent (core_within c at)
            within wrote) g.latest;
      }

  -- each row keeps the order where there is no fault
  pub in_order_kept : IsKept p fault.None s (IsInOrder p)
  in_order_kept = record {
    drain = drain_in_order;
    store = λ c b a v n at. record {
      steady = store_steady g.steady n at;
      ordered = issue_ordered n (stored_state s c b a v) refl refl refl refl
          (record { addr = a; value = v; event = b }) refl (omega (arith, at, g.steady.buffers))
          refl refl g.steady.counted g.ordered;
      coherent = g.coherent;
      latest = g.latest;
    };
    look = look_in_order;
    rmw = rmw_in_order;
    transact = λ caches c a at within any made. record {
      steady = transact_steady g.steady caches c a any;
      ordered = g.ordered;
      coherent = every_call_keeps_coherence s.caches caches c a 0 0 g.coherent (core_within c at) within
          (inl (made refl));
      latest = λ b inside. ap (λ (z : ℕ × Option ℕ). z.1) (every_transaction_keeps_current s.caches caches c a b
          g.coherent (core_within c at) within (made refl))
          ∙ g.latest b (omega (arith, inside, (transaction_large s.caches caches c a (made refl)).blocks));
    };
  }

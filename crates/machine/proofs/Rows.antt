-- The rows of the table of steps, each as one change of the state.
use Rattle.std.proofs.Common.{◌≡◌, ◌<◌, ◌+◌, ◌&&◌, ◌⊎◌, inl, inr, ℕ, nat_lt, Bool, true, false, cond, Option, Some}
use Rattle.std.proofs.Common.{None, Result, Ok, Err, List, [], ◌∷◌, ◌++◌, take, drop, length, get_or, slice_get}
use Rattle.std.proofs.Common.{slice_index_or, arith, refl, ap, subst, ◌∙◌}
use Rattle.std.specs.Prelude.{◌==◌}
use Rattle.std.proofs.lemmas.Bool.{ltb-true}
use Rattle.std.proofs.lemmas.List.{set-get_or}
use Rattle.std.proofs.lemmas.Option.{slice_get_within, get_or_from_slice_get, same_Some}
use Rattle.program.specs.declared.op.Op.{Op}
use Rattle.program.specs.declared.op.Op.TheVariants.{St, Ld, Fence, Swap, Add, Cas}
use Rattle.recording.specs.Event.{written_address}
use Rattle.moesi.specs.State as moesi
use Rattle.moesi.specs.Laws.{IsTransaction, IsAnyTransaction}
use Rattle.moesi.specs.declared.error.CacheError.{CacheError}
use Rattle.write_buffer.specs.declared.entry.Entry.{Entry}
use Rattle.program.specs.declared.fault.Fault.{Fault}
use Rattle.program.specs.declared.fault.Fault.TheVariants as fault
use Rattle.machine.specs.declared.step.Step.{Step}
use Rattle.machine.specs.declared.step.Step.TheVariants.{Exec, Drain, GetS, GetM, Put}
use Rattle.machine.specs.declared.blocked.Blocked.{Blocked}
use Rattle.machine.specs.declared.blocked.Blocked.TheVariants.{B4, B5, B7, B8}
use Rattle.machine.specs.State.{State, place_of, buffer_of, line_copy, first_event}
use Rattle.program_events.specs.ProgramOf.{event_of}
use Rattle.machine.specs.Step.{advanced, performed, with_read, written, with_buffer, with_caches, or_blocked}
use Rattle.machine.specs.Step.{looked_up, read_modify_written, read_unmodified}
use Rattle.machine.specs.Step.{rmw_value, exec, exec_next, drained_at, has, step_result, after, run}
use Rattle.machine.specs.RunLaws.{guarded}
use Rattle.machine.proofs.Static.{op_reads, is_st, is_ld}
use Rattle.machine.proofs.Cached.{exclusive_read}
use Rattle.machine.proofs.ExecuteEvents.{IsNext}
use Rattle.machine.specs.declared.step.Transaction.TheVariants as transaction
use Rattle.machine.specs.Faults.{draining, transacted}
use Rattle.machine.proofs.DrainEvents.{drained_state}
use Rattle.machine.proofs.Removed.{split_at, none_before, fence_after, rmw_after}

-- the state after core c's store went to its buffer
abbrev pub stored_state : State → ℕ → ℕ → ℕ → ℕ → State
stored_state s c b a v = advanced (with_buffer s c
    (buffer_of s c ++ record { addr = a; value = v; event = b } ∷ [])) c

-- the state after core c's load got this
abbrev pub loaded_state : State → ℕ → ℕ → ℕ × Option ℕ → State
loaded_state s c b what = advanced (performed (with_read s b what) b) c

-- the state after core c read its line of address a and wrote it, which left these caches
abbrev pub rmw_state : State → moesi.CacheState → ℕ → ℕ → ℕ → State
rmw_state s caches c b a = advanced (performed (written (with_read s b (line_copy s c a)) caches a b) b) c

-- op reads address a and then writes it
pub record IsRmw (op : Op) (d : ℕ × Option ℕ) (a : ℕ) : Type 0 where
  pub store : is_st op ≡ false
  pub reads : op_reads op ≡ Some a
  pub address : written_address (event_of op d) ≡ Some a

-- op writes nothing, and if it reads, what it gets as a load does, or from the line where nothing has to wait;
-- without fault it is a plain load, or nothing waits
pub record IsLook (f : Fault) (s : State) (c : ℕ) (op : Op) (what : ℕ × Option ℕ) : Type 0 where
  pub store : is_st op ≡ false
  pub address : written_address (event_of op what) ≡ None
  pub allowed : f ≡ fault.None → (is_ld op ≡ true) ⊎ (buffer_of s c ≡ [])
  pub got : (a : ℕ) → op_reads op ≡ Some a → (looked_up f s c a ≡ Ok what)
      ⊎ ((f ≡ fault.None → buffer_of s c ≡ []) × (moesi.read s.caches c a ≡ Ok what))

-- what each row of the table keeps under a fault; what a fault leaves out is known where there is none
pub record IsKept (p : List (List Op)) (f : Fault) (s : State) (P : State → Type 0) : Type 0 where
  pub drain : (caches : moesi.CacheState) (c : ℕ) (x : Entry) (front back : List Entry) → c < length p
      → buffer_of s c ≡ front ++ x ∷ back → (f ≡ fault.None → front ≡ [])
      → moesi.write s.caches c x.addr x.value x.event ≡ Ok caches
      → P (drained_state s caches c x (front ++ back))
  pub store : (c b a v : ℕ) → IsNext p s c b (St a v) → c < length p → P (stored_state s c b a v)
  pub look : (c b : ℕ) (op : Op) (what : ℕ × Option ℕ) → IsNext p s c b op → IsLook f s c op what
      → P (loaded_state s c b what)
  pub rmw : (caches : moesi.CacheState) (c b a : ℕ) (op : Op) → IsNext p s c b op → c < length p
      → IsRmw op (line_copy s c a) a → (f ≡ fault.None → buffer_of s c ≡ [])
      → moesi.write s.caches c a (rmw_value s c op a) b ≡ Ok caches → P (rmw_state s caches c b a)
  pub transact : (caches : moesi.CacheState) (c a : ℕ) → c < length p → a < length s.caches.blocks
      → IsAnyTransaction s.caches c a caches → (f ≡ fault.None → IsTransaction s.caches c a caches)
      → P (with_caches s caches)

-- GetM is a transaction under every fault, and the one that keeps coherence where there is none
pub get_m_any : (f : Fault) (m : moesi.CacheState) (c a : ℕ) (caches : moesi.CacheState)
    → transacted f transaction.GetM m c a ≡ Ok caches → IsAnyTransaction m c a caches
get_m_any fault.StaleShare m c a caches h = inr h
get_m_any f m c a caches h = inl (inr (inl h))

-- one state, answered twice
pub ok_one : (s t : State) → (let r : Result State Blocked = Ok s in r) ≡ Ok t → s ≡ t
ok_one s t h = cc

-- what had its effect was allowed
pub allowed_ok : {A : Type 0} (b : Blocked) (effect : A → State) (r : Result A CacheError) (t : State)
    → or_blocked b effect r ≡ Ok t → (x : A) × (r ≡ Ok x) × (effect x ≡ t)
allowed_ok b effect (Ok x) t h = (x, refl, ok_one (effect x) t h)
allowed_ok b effect (Err e) t h = absurd cc

-- a core and an address that are there
pub has_both : (p : List (List Op)) (s : State) (c a : ℕ) → has p s c a ≡ true → (c < length p)
    × (a < length s.caches.blocks)
has_both p s c a h = go (nat_lt c (length p)) refl h
  where
    go : (b : Bool) → nat_lt c (length p) ≡ b → (b && nat_lt a (length s.caches.blocks)) ≡ true
        → (c < length p) × (a < length s.caches.blocks)
    go true is k = (ltb-true c (length p) is, ltb-true a (length s.caches.blocks) k)
    go false is k = absurd cc

-- a compare-and-swap that finds the value is a swap
pub swap_is : (f : Fault) (s : State) (c b a e v : ℕ) → ((line_copy s c a).0 == e) ≡ true
    → read_modify_written f s c b (Cas a e v) a ≡ read_modify_written f s c b (Swap a v) a
swap_is f s c b a e v is = rw is refl

module _ (p : List (List Op)) (capacity : ℕ) (f : Fault) (s : State) (P : State → Type 0)
    (kept : IsKept p f s P) (one_each : length s.places ≡ length p) where
  -- a read-modify-write is one of the rows
  rmw_kept : (c b a : ℕ) (op : Op) (t : State) → IsNext p s c b op → c < length p
      → IsRmw op (line_copy s c a) a → read_modify_written f s c b op a ≡ Ok t → P t
  rmw_kept c b a op t n at is h =
      let g = guarded _ _ _ t h in
      let wrote = allowed_ok B5 _ (moesi.write s.caches c a (rmw_value s c op a) b) t g.1 in
      subst P wrote.2 (kept.rmw wrote.0 c b a op n at is (rmw_after f (buffer_of s c) g.0) wrote.1)

  -- so is a compare-and-swap, which writes or only reads
  cas_kept : (c b a e v : ℕ) (t : State) → IsNext p s c b (Cas a e v) → c < length p
      → exec capacity f s c b (Cas a e v) ≡ Ok t → P t
  cas_kept c b a e v t n at h = go ((line_copy s c a).0 == e) refl h
    where
      go : (q : Bool) → ((line_copy s c a).0 == e) ≡ q
          → cond q (read_modify_written f s c b (Swap a v) a) (read_unmodified f s c b a) ≡ Ok t → P t
      go true is h' = rmw_kept c b a (Cas a e v) t n at
          (record { store = refl; reads = refl; address = rw is refl }) (swap_is f s c b a e v is ∙ h')
      go false is h' =
          let g = guarded _ _ _ t h' in
          let owned = guarded _ _ _ t g.1 in
          subst P (ok_one _ t owned.1) (kept.look c b (Cas a e v) (line_copy s c a) n (record {
            store = refl;
            address = rw is refl;
            allowed = λ none. inr (rmw_after f (buffer_of s c) g.0 none);
            got = λ k reads. inr (
              rmw_after f (buffer_of s c) g.0,
              rw (← same_Some a k reads) (exclusive_read s.caches c a owned.0),
            );
          }))

  -- so is a transaction
  transaction_kept : (c a : ℕ) (t : State) (r : Result moesi.CacheState CacheError)
      → ((caches : moesi.CacheState) → r ≡ Ok caches → IsAnyTransaction s.caches c a caches
      × (f ≡ fault.None → IsTransaction s.caches c a caches))
      → cond (has p s c a) (or_blocked B7 (with_caches s) r) (Err B8) ≡ Ok t → P t
  transaction_kept c a t r is h =
      let g = guarded _ _ _ t h in
      let there = has_both p s c a g.0 in
      let made = allowed_ok B7 (with_caches s) r t g.1 in
      let any = is made.0 made.1 in
      subst P made.2 (kept.transact made.0 c a there.0 there.1 any.0 any.1)

  -- so is every execution
  exec_kept : (c b : ℕ) (op : Op) (t : State) → IsNext p s c b op → c < length p → exec capacity f s c b op
      ≡ Ok t → P t
  exec_kept c b (St a v) t n at h = subst P (ok_one _ t (guarded _ _ _ t h).1) (kept.store c b a v n at)
  exec_kept c b (Ld a) t n at h =
      let got = allowed_ok B4 _ (looked_up f s c a) t h in
      subst P got.2 (kept.look c b (Ld a) got.0 n (record {
        store = refl;
        address = refl;
        allowed = λ none. inl refl;
        got = λ k reads. inl (subst (λ (z : ℕ). looked_up f s c z ≡ Ok got.0) (same_Some a k reads) got.1);
      }))
  exec_kept c b Fence t n at h =
      let g = guarded _ _ _ t h in
      let same : loaded_state s c b (get_or s.reads b (0, None)) ≡ advanced (performed s b) c =
      ap (λ (l : List (ℕ × Option ℕ)). advanced (performed (record s { reads = l }) b) c)
      (set-get_or s.reads b (0, None)) in
      subst P (same ∙ ok_one _ t g.1) (kept.look c b Fence (get_or s.reads b (0, None)) n (record {
        store = refl;
        address = refl;
        allowed = λ none. inr (fence_after f (buffer_of s c) g.0 none);
        got = λ k reads. absurd cc;
      }))
  exec_kept c b (Swap a v) t n at h =
      rmw_kept c b a (Swap a v) t n at (record { store = refl; reads = refl; address = refl }) h
  exec_kept c b (Add a v) t n at h =
      rmw_kept c b a (Add a v) t n at (record { store = refl; reads = refl; address = refl }) h
  exec_kept c b (Cas a e v) t n at h = cas_kept c b a e v t n at h

  -- a step that is taken is one of the rows
  pub step_kept : (step : Step) (t : State) → step_result p capacity f s step ≡ Ok t → P t
  step_kept (Exec c) t h = go (slice_get (slice_index_or p c []) (place_of s c)) refl (guarded _ _ _ t h).1
    where
      at : c < length p
      at = ltb-true c (length p) (guarded _ _ _ t h).0

      go : (o : Option Op) → slice_get (slice_index_or p c []) (place_of s c) ≡ o
          → exec_next p capacity f s c o ≡ Ok t → P t
      go None is h' = absurd cc
      go (Some op) is h' = exec_kept c (first_event p c + place_of s c) op t (record {
        event = refl;
        there = slice_get_within (slice_index_or p c []) (place_of s c) op is;
        operation = get_or_from_slice_get (slice_index_or p c []) (place_of s c) op Fence is;
        core = omega (arith, at, one_each);
      }) at h'
  step_kept (Drain c) t h = go (slice_get (buffer_of s c) (draining f (buffer_of s c))) refl
      (guarded _ _ _ t h).1
    where
      at : c < length p
      at = ltb-true c (length p) (guarded _ _ _ t h).0

      go : (o : Option Entry) → slice_get (buffer_of s c) (draining f (buffer_of s c)) ≡ o
          → drained_at s c (draining f (buffer_of s c)) o ≡ Ok t → P t
      go None is h' = absurd cc
      go (Some x) is h' =
          let i : ℕ = draining f (buffer_of s c) in
          let wrote = allowed_ok B5 _ (moesi.write s.caches c x.addr x.value x.event) t h' in
          subst P wrote.2 (kept.drain wrote.0 c x (take i (buffer_of s c)) (drop (i + 1) (buffer_of s c)) at
          (split_at (buffer_of s c) i x is) (none_before f (buffer_of s c)) wrote.1)
  step_kept (GetS c a) t h = transaction_kept c a t (moesi.get_s s.caches c a)
      (λ caches is. (inl (inl is), λ none. inl is)) h
  step_kept (GetM c a) t h = transaction_kept c a t (transacted f transaction.GetM s.caches c a)
      (λ caches is. (
        get_m_any f s.caches c a caches is,
        λ none. inr (inl (subst (λ (g : Fault). transacted g transaction.GetM s.caches c a ≡ Ok caches) none is)),
      )) h
  step_kept (Put c a) t h = transaction_kept c a t (moesi.put s.caches c a)
      (λ caches is. (inl (inr (inr is)), λ none. inr (inr is))) h

-- what each row keeps, every list of steps keeps
pub run_kept : (p : List (List Op)) (capacity : ℕ) (f : Fault) (P : State → Type 0)
    → ((s : State) → P s → IsKept p f s P × (length s.places ≡ length p))
    → (steps : List Step) (s : State) → P s → P (run p capacity f s steps)
run_kept p capacity f P kept [] s h = h
run_kept p capacity f P kept (step ∷ steps) s h = go (λ t ht. run_kept p capacity f P kept steps t ht)
    (step_result p capacity f s step) refl
  where
    go : ((t : State) → P t → P (run p capacity f t steps)) → (r : Result State Blocked)
        → step_result p capacity f s step ≡ r → P (run p capacity f (after s r) steps)
    go on (Ok t) is = on t (step_kept p capacity f s P (kept s h).0 (kept s h).1 step t is)
    go on (Err b) is = on s h

-- Write lists are what was performed, memory has the last of each, and so a load gets the newest write
-- that its core sees.
use Rattle.std.proofs.Common.{◌≡◌, ◌<◌, ◌≤◌, inl, inr, ℕ, Bool, true, false, cond, Result, Ok, Option, Some}
use Rattle.std.proofs.Common.{None, List, [], ◌∷◌, ◌++◌, map, length, get_or, arith, refl, sym, ap}
use Rattle.std.proofs.Common.{subst, ◌∙◌, get_or-set_same, get_or-set_other, length-set}
use Rattle.std.specs.Prelude.{◌==◌}
use Rattle.std.specs.List.{filter}
use Rattle.std.proofs.lemmas.List.Elements.{filter-append}
use Rattle.std.proofs.lemmas.Bool.{cases_eq, eq-eqb, eqb-true}
use Rattle.std.proofs.Math.Dec.{eqb}
use Rattle.std.proofs.lemmas.List.{append-nil}
use Rattle.std.proofs.lemmas.Bool.Decides.{nat_tests}
use Rattle.program.specs.declared.op.Op.{Op}
use Rattle.recording.specs.Event.{written_address}
use Rattle.recording.specs.Order.{times}
use Rattle.write_buffer.specs.declared.entry.Entry.{Entry}
use Rattle.write_buffer.specs.Buffer.{youngest}
use Rattle.moesi.specs.State as moesi
use Rattle.moesi.specs.declared.error.CacheError.{CacheError}
use Rattle.moesi.specs.Coherent.{IsCoherent}
use Rattle.moesi.proofs.CacheLemmas.{every_read_is_current}
use Rattle.program.specs.declared.fault.Fault.TheVariants as fault
use Rattle.machine.specs.State.{State, buffer_of, current_copy}
use Rattle.program_events.specs.ProgramOf.{event_of}
use Rattle.machine.specs.Step.{performed, written, with_read, forwarded_or_read, looked_up}
use Rattle.machine.proofs.Seen.{seen, IsNewest}
use Rattle.machine.proofs.Static.{static_of, snapshot_of, placed_op, done_by}
use Rattle.machine.proofs.Newest.{filter_yes, filter_no, last_of, last_one, last_two, filter_same, newest_in_memory}
use Rattle.machine.proofs.DrainEvents.{AreStores}
use Rattle.machine.proofs.Loads.{IsYoungestOf, not_equal, youngest_says, newest_in_buffer}

-- whether an address written, if any, is a
pub is_address : Option ℕ → ℕ → Bool
is_address (Some b) a = eqb b a
is_address None a = false

-- whether event e writes a, as far as s goes
abbrev pub writes_to : List (List Op) → State → ℕ → ℕ → Bool
writes_to p s a e = is_address (written_address (done_by p s e)) a

-- the test holds of that address
pub is_address_true : (o : Option ℕ) (a : ℕ) → is_address o a ≡ true → o ≡ Some a
unfolding is_address
is_address_true (Some b) a h = ap Some (eqb-true b a h)
is_address_true None a h = absurd cc

-- and the other way round
pub is_address_back : (o : Option ℕ) (a : ℕ) → o ≡ Some a → is_address o a ≡ true
unfolding is_address
is_address_back o a h = ap (λ (z : Option ℕ). is_address z a) h ∙ eq-eqb a a refl

-- it fails of another address
is_address_other : (b a : ℕ) → (b ≡ a → ⊥) → is_address (Some b) a ≡ false
unfolding is_address
is_address_other b a h = grind (arith, nat_tests)

-- and of no address
is_address_none : (a : ℕ) → is_address None a ≡ false
unfolding is_address
is_address_none a = refl

-- what was put at the end is the last
last_push : (xs : List ℕ) (e : ℕ) → last_of (xs ++ e ∷ []) ≡ Some e
last_push [] e = last_one e
last_push (x ∷ []) e = last_two x [] e ∙ last_one e
last_push (x ∷ (y ∷ ys)) e = last_two x (y ∷ ys) e ∙ last_push (y ∷ ys) e

-- each write list is what of the performed events writes its address
pub record AreListed (p : List (List Op)) (s : State) : Type 0 where
  pub cells : length s.write_lists ≡ length s.caches.blocks
  pub lists : (a : ℕ) → a < length s.caches.blocks
      → get_or s.write_lists a [] ≡ filter (writes_to p s a) s.performed

-- each address has the value of the last of its write list
abbrev pub IsLatest : State → Type 0
IsLatest s = (a : ℕ) → a < length s.caches.blocks → (current_copy s a).1 ≡ last_of (get_or s.write_lists a [])

-- what an event reads, before it is performed, changes no list
pub listed_given : (p : List (List Op)) (s : State) (b : ℕ) (what : ℕ × Option ℕ) → times s.performed b ≡ 0
    → AreListed p s → AreListed p (with_read s b what)
listed_given p s b what fresh listed = record {
  cells = listed.cells;
  lists = λ a inside. listed.lists a inside
      ∙ filter_same (writes_to p s a) (writes_to p (with_read s b what) a) s.performed (λ e there.
      ap (λ (d : ℕ × Option ℕ). is_address (written_address (event_of (placed_op p e).1 d)) a)
      (sym (get_or-set_other s.reads b e what (0, None)
      (λ is. omega (arith, there, fresh, ap (times s.performed) is)))));
}

-- to write and perform e keeps the lists
pub listed_written : (p : List (List Op)) (s : State) (caches : moesi.CacheState) (a e : ℕ)
    → length caches.blocks ≡ length s.caches.blocks → written_address (done_by p s e) ≡ Some a
    → a < length s.caches.blocks → AreListed p s → AreListed p (performed (written s caches a e) e)
listed_written p s caches a e large writes at listed = record {
  cells = length-set s.write_lists a (get_or s.write_lists a [] ++ e ∷ []) ∙ (listed.cells ∙ sym large);
  lists = λ b inside. elim (cases_eq b a) [
    | inl here ↦ rw here (get_or-set_same s.write_lists a (get_or s.write_lists a [] ++ e ∷ []) []
        (omega (arith, at, listed.cells))
        ∙ (ap (λ (l : List ℕ). l ++ e ∷ []) (listed.lists a at)
        ∙ (ap (λ (l : List ℕ). filter (writes_to p s a) s.performed ++ l)
        (sym (filter_yes (writes_to p s a) e []
        (is_address_back (written_address (done_by p s e)) a writes)))
        ∙ sym (filter-append (writes_to p s a) s.performed (e ∷ [])))))
    | inr other ↦
        get_or-set_other s.write_lists a b (get_or s.write_lists a [] ++ e ∷ []) [] other
        ∙ (listed.lists b (omega (arith, inside, large))
        ∙ (sym (append-nil (filter (writes_to p s b) s.performed))
        ∙ (ap (λ (l : List ℕ). filter (writes_to p s b) s.performed ++ l)
        (sym (filter_no (writes_to p s b) e []
        (ap (λ (z : Option ℕ). is_address z b) writes
        ∙ is_address_other a b (λ same_as. other (sym same_as)))))
        ∙ sym (filter-append (writes_to p s b) s.performed (e ∷ [])))))
  ];
}

-- to perform e, which writes nothing, keeps the lists
pub listed_performed : (p : List (List Op)) (s : State) (e : ℕ) → written_address (done_by p s e) ≡ None
    → AreListed p s → AreListed p (performed s e)
listed_performed p s e none listed = record {
  cells = listed.cells;
  lists = λ a inside. listed.lists a inside ∙ (sym (append-nil (filter (writes_to p s a) s.performed))
      ∙ (ap (λ (l : List ℕ). filter (writes_to p s a) s.performed ++ l)
      (sym (filter_no (writes_to p s a) e []
      (ap (λ (z : Option ℕ). is_address z a) none ∙ is_address_none a)))
      ∙ sym (filter-append (writes_to p s a) s.performed (e ∷ []))));
}

-- the address that e wrote has the value of e
pub latest_written : (s : State) (caches : moesi.CacheState) (a value e : ℕ) → a < length s.caches.blocks
    → length s.write_lists ≡ length s.caches.blocks → length caches.blocks ≡ length s.caches.blocks
    → ((b : ℕ) → moesi.current caches b ≡ cond (b == a) (value, Some e) (current_copy s b)) → IsLatest s
    → IsLatest (written s caches a e)
latest_written s caches a value e at cells large sets latest b inside = elim (cases_eq b a) [
  | inl here ↦ rw here (ap (λ (z : ℕ × Option ℕ). z.1) (subst
      (λ (q : Bool). moesi.current caches a ≡ cond q (value, Some e) (current_copy s a)) (eq-eqb a a refl)
      (sets a))
      ∙ (sym (last_push (get_or s.write_lists a []) e)
      ∙ ap last_of (sym (get_or-set_same s.write_lists a (get_or s.write_lists a [] ++ e ∷ []) []
      (omega (arith, at, cells))))))
  | inr other ↦
      ap (λ (z : ℕ × Option ℕ). z.1) (subst
      (λ (q : Bool). moesi.current caches b ≡ cond q (value, Some e) (current_copy s b))
      (not_equal b a other) (sets b))
      ∙ (latest b (omega (arith, inside, large))
      ∙ ap last_of (sym (get_or-set_other s.write_lists a b (get_or s.write_lists a [] ++ e ∷ [])
      [] other)))
]

-- one pair, answered twice
pub pair_one : (d f : ℕ × Option ℕ) → (let r : Result (ℕ × Option ℕ) CacheError = Ok d in r) ≡ Ok f → d ≡ f
pair_one d f h = cc

-- what a load of core c gets is the newest write that c sees
pub loaded_newest : (p : List (List Op)) (s : State) (c a : ℕ) (what : ℕ × Option ℕ)
    → a < length s.caches.blocks → AreListed p s → IsLatest s → IsCoherent s.caches
    → AreStores p c (buffer_of s c)
    → ((e : ℕ) → times s.performed e ≤ 1)
    → ((e : ℕ) → times (map (λ (x : Entry). x.event) (buffer_of s c)) e ≤ 1)
    → ((e : ℕ) → 0 < times (map (λ (x : Entry). x.event) (buffer_of s c)) e → times s.performed e ≡ 0)
    → looked_up fault.None s c a ≡ Ok what → IsNewest (static_of p s) (seen (snapshot_of p s) c) a what.1
loaded_newest p s c a what at listed latest coherent stores once once_waiting apart =
    go (youngest (buffer_of s c) a) (youngest_says p s c (buffer_of s c) a stores once_waiting)
  where
    go : (entry : Option Entry) → IsYoungestOf p s (buffer_of s c) a entry
        → forwarded_or_read entry (moesi.read s.caches c a) ≡ Ok what
        → IsNewest (static_of p s) (seen (snapshot_of p s) c) a what.1
    go None says is = subst (λ (o : Option ℕ). IsNewest (static_of p s) (seen (snapshot_of p s) c) a o)
        (sym (ap (λ (z : ℕ × Option ℕ). z.1) (every_read_is_current s.caches c a what coherent is)
        ∙ (latest a at ∙ ap last_of (listed.lists a at))))
        (newest_in_memory (static_of p s) (writes_to p s a) s.performed
        (map (λ (x : Entry). x.event) (buffer_of s c)) a
        (λ e h. is_address_true (written_address (done_by p s e)) a h)
        (λ e h. is_address_back (written_address (done_by p s e)) a h) once says)
    go (Some y) says is =
        rw (← pair_one (y.value, Some y.event) what is)
        (newest_in_buffer p s s.performed (buffer_of s c) a y apart says)

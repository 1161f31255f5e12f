-- An execution of the machine is one of event numbers.
use Rattle.std.proofs.Common.{◌≡◌, ◌≢◌, ◌<◌, ◌+◌, ◌⊎◌, inl, inr, ℕ, true, false, Option, Some, None, List, []}
use Rattle.std.proofs.Common.{◌∷◌, ◌++◌, map, length, get_or, slice_set, arith, sym, ap, ◌∙◌}
use Rattle.std.proofs.Common.{get_or-set_same, get_or-set_other}
use Rattle.std.proofs.lemmas.List.{map-append}
use Rattle.program.specs.declared.op.Op.{Op}
use Rattle.program.specs.declared.op.Op.TheVariants.{Fence}
use Rattle.write_buffer.specs.declared.entry.Entry.{Entry}
use Rattle.recording.specs.Event.{written_address}
use Rattle.machine.specs.State.{State, place_of, buffer_of, first_event}
use Rattle.program_events.specs.ProgramOf.{event_of}
use Rattle.machine.proofs.Seen.{IsCounted, IsOrdered, seen, IsNewest}
use Rattle.machine.proofs.Counting.{counted_kept, Executes, Issues, issue_counts, Performs, perform_counts}
use Rattle.machine.proofs.Ordering.{ordered_kept, issue_orders, perform_orders}
use Rattle.machine.proofs.Rewritten.{counted_rewritten, ordered_rewritten, newest_rewritten}
use Rattle.recording.specs.PlacedLaws.{placed_at}
use Rattle.machine.proofs.Static.{static_of, snapshot_of, placed_op, op_reads, is_st, is_ld}

-- core c is at the operation op, whose event is b
pub record IsNext (p : List (List Op)) (s : State) (c b : ℕ) (op : Op) : Type 0 where
  pub event : b ≡ first_event p c + place_of s c
  pub there : place_of s c < length (get_or p c [])
  pub operation : get_or (get_or p c []) (place_of s c) Fence ≡ op
  pub core : c < length s.places

module _ {p : List (List Op)} {s : State} {c b : ℕ} {op : Op} (n : IsNext p s c b op) where
  -- the event of a core's next operation is that operation's
  pub next_placed : placed_op p b ≡ (c, op)
  next_placed =
      ap (placed_op p) n.event ∙ ((placed_at 0 p c (place_of s c) Fence n.there).0
      ∙ (ap (λ (k : ℕ). (k, get_or (get_or p c []) (place_of s c) Fence)) (omega arith)
      ∙ ap (λ (o : Op). (c, o)) n.operation))

  -- it is one of the program's
  pub next_event : b < (static_of p s).count
  next_event = omega (arith, n.event, (placed_at 0 p c (place_of s c) Fence n.there).1)

  -- and of that core
  core_is : (static_of p s).core b ≡ c
  core_is = ap (λ (z : ℕ × Op). z.0) next_placed

  -- whose next event it is
  pub next_old : (snapshot_of p s).next ((static_of p s).core b) ≡ b
  next_old = ap (snapshot_of p s).next core_is ∙ sym n.event

module _ {p : List (List Op)} {s : State} {c b : ℕ} {op : Op} (n : IsNext p s c b op) (t : State)
    (places : t.places ≡ slice_set s.places c (place_of s c + 1)) where
  -- the event is executed
  executes : ((e : ℕ) → e ≢ b → get_or t.reads e (0, None) ≡ get_or s.reads e (0, None))
      → Executes (static_of p t) (snapshot_of p s) (snapshot_of p t) b
  executes reads = record {
    event = next_event n;
    next_was = next_old n;
    next = ap (snapshot_of p t).next (core_is n)
        ∙ (ap (λ (ps : List ℕ). first_event p c + get_or ps c 0) places
        ∙ omega (arith, n.event, get_or-set_same s.places c (place_of s c + 1) 0 n.core));
    next_others = λ d other. ap (λ (ps : List ℕ). first_event p d + get_or ps d 0) places
        ∙ ap (λ (i : ℕ). first_event p d + i)
        (get_or-set_other s.places c d (place_of s c + 1) 0 (λ same. other (same ∙ sym (core_is n))));
    source = λ e other. ap (λ (z : ℕ × Option ℕ). z.1) (reads e other);
  }

  -- no other event writes anything else
  writes_same : ((e : ℕ) → e ≢ b → get_or t.reads e (0, None) ≡ get_or s.reads e (0, None)) → (e : ℕ) → e ≢ b
      → (static_of p t).writes e ≡ (static_of p s).writes e
  writes_same reads e other =
      ap (λ (d : ℕ × Option ℕ). written_address (event_of (placed_op p e).1 d)) (reads e other)

  -- before it is executed, what the event will write changes no count
  same_counted : IsCounted (static_of p s) (snapshot_of p s) → IsCounted (static_of p t) (snapshot_of p s)
  same_counted counted = counted_rewritten (static_of p t).writes counted

  -- and no order
  same_ordered : ((e : ℕ) → e ≢ b → get_or t.reads e (0, None) ≡ get_or s.reads e (0, None))
      → IsCounted (static_of p s) (snapshot_of p s) → IsOrdered (static_of p s) (snapshot_of p s)
      → IsOrdered (static_of p t) (snapshot_of p s)
  same_ordered reads counted ordered =
      ordered_rewritten (static_of p t).writes counted (next_old n) (writes_same reads) ordered

  -- an operation that is performed at once
  module _ (performed : t.performed ≡ s.performed ++ b ∷ []) (buffers : t.buffers ≡ s.buffers)
      (reads : (e : ℕ) → e ≢ b → get_or t.reads e (0, None) ≡ get_or s.reads e (0, None)) where
    -- the execution performs the event
    performs : Performs (static_of p t) (snapshot_of p s) (snapshot_of p t) b
    performs = record {
      executes = executes reads;
      performed = performed;
      buffer = λ d. ap (λ (bs : List (List Entry)). map (λ (x : Entry). x.event) (get_or bs d [])) buffers;
    }

    -- so it keeps the count
    pub perform_counted : IsCounted (static_of p s) (snapshot_of p s)
        → IsCounted (static_of p t) (snapshot_of p t)
    perform_counted counted = counted_kept (same_counted counted) (perform_counts (same_counted counted) performs)

    -- and the order, where the event is allowed and reads the newest write
    pub perform_ordered : is_st op ≡ false → ((is_ld op ≡ true) ⊎ (buffer_of s c ≡ []))
        → ((a : ℕ) → op_reads op ≡ Some a → IsNewest (static_of p s) (seen (snapshot_of p s) c) a
        (get_or t.reads b (0, None)).1)
        → IsCounted (static_of p s) (snapshot_of p s) → IsOrdered (static_of p s) (snapshot_of p s)
        → IsOrdered (static_of p t) (snapshot_of p t)
    perform_ordered plain allowed newest counted ordered =
        ordered_kept (same_counted counted) (same_ordered reads counted ordered)
        (perform_counts (same_counted counted) performs)
        (perform_orders (same_counted counted) performs (record {
          store = ap (λ (z : ℕ × Op). is_st z.1) (next_placed n) ∙ plain;
          allowed = elim allowed [
            | inl load ↦ inl (ap (λ (z : ℕ × Op). is_ld z.1) (next_placed n) ∙ load)
            | inr empty ↦ inr (ap (snapshot_of p s).buffer (core_is n) ∙ ap (map (λ (x : Entry). x.event)) empty)
          ];
          newest = λ a is. rw (core_is n) (newest_rewritten (static_of p t).writes counted (next_old n)
              (writes_same reads) c a (get_or t.reads b (0, None)).1
              (newest a (sym (ap (λ (z : ℕ × Op). op_reads z.1) (next_placed n)) ∙ is)));
        }))

  -- a store that goes to the buffer
  module _ (store : is_st op ≡ true) (none : op_reads op ≡ None) (performed : t.performed ≡ s.performed)
      (entry : Entry) (is : entry.event ≡ b) (at : c < length s.buffers)
      (buffers : t.buffers ≡ slice_set s.buffers c (buffer_of s c ++ entry ∷ [])) (reads : t.reads ≡ s.reads)
    where
      -- the execution puts the store into the buffer
      issues : Issues (static_of p t) (snapshot_of p s) (snapshot_of p t) b
      issues = record {
        executes = executes (λ e other. ap (λ (rs : List (ℕ × Option ℕ)). get_or rs e (0, None)) reads);
        store = ap (λ (z : ℕ × Op). is_st z.1) (next_placed n) ∙ store;
        reads = ap (λ (z : ℕ × Op). op_reads z.1) (next_placed n) ∙ none;
        performed = performed;
        buffer = ap (snapshot_of p t).buffer (core_is n)
            ∙ (ap (λ (bs : List (List Entry)). map (λ (x : Entry). x.event) (get_or bs c [])) buffers
            ∙ (ap (map (λ (x : Entry). x.event))
            (get_or-set_same s.buffers c (buffer_of s c ++ entry ∷ []) [] at)
            ∙ (map-append (λ (x : Entry). x.event) (buffer_of s c) (entry ∷ [])
            ∙ (ap (λ (e : ℕ). map (λ (x : Entry). x.event) (buffer_of s c) ++ e ∷ []) is
            ∙ ap (λ (d : ℕ). map (λ (x : Entry). x.event) (buffer_of s d) ++ b ∷ []) (sym (core_is n))))));
        others = λ d other. ap (λ (bs : List (List Entry)). map (λ (x : Entry). x.event) (get_or bs d []))
            buffers
            ∙ ap (map (λ (x : Entry). x.event))
            (get_or-set_other s.buffers c d (buffer_of s c ++ entry ∷ []) []
            (λ same. other (same ∙ sym (core_is n))));
      }

      -- so it keeps the count
      pub issue_counted : IsCounted (static_of p s) (snapshot_of p s)
          → IsCounted (static_of p t) (snapshot_of p t)
      issue_counted counted = counted_kept (same_counted counted) (issue_counts (same_counted counted) issues)

      -- and the order
      pub issue_ordered : IsCounted (static_of p s) (snapshot_of p s)
          → IsOrdered (static_of p s) (snapshot_of p s) → IsOrdered (static_of p t) (snapshot_of p t)
      issue_ordered counted ordered =
          ordered_kept (same_counted counted)
          (same_ordered (λ e other. ap (λ (rs : List (ℕ × Option ℕ)). get_or rs e (0, None)) reads) counted ordered)
          (issue_counts (same_counted counted) issues) (issue_orders (same_counted counted) issues)

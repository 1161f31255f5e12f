-- A drain of the machine is a drain of event numbers.
use Rattle.std.proofs.Common.{◌≡◌, ◌<◌, ℕ, List, [], ◌∷◌, ◌++◌, map, length, refl, ap, ◌∙◌, get_or-set_same}
use Rattle.std.proofs.Common.{get_or-set_other}
use Rattle.std.proofs.lemmas.List.{map-append}
use Rattle.program.specs.declared.op.Op.{Op}
use Rattle.program.specs.declared.op.Op.TheVariants.{St}
use Rattle.write_buffer.specs.declared.entry.Entry.{Entry}
use Rattle.moesi.specs.State as moesi
use Rattle.machine.specs.State.{State, buffer_of}
use Rattle.machine.specs.Step.{performed, written, with_buffer}
pub use Rattle.machine.specs.Orderly.{AreStores}
use Rattle.machine.proofs.Seen.{IsCounted, IsOrdered}
use Rattle.machine.proofs.Counting.{Drains, counted_kept, drain_counts}
use Rattle.machine.proofs.Ordering.{ordered_kept, drain_orders}
use Rattle.machine.proofs.Static.{static_of, snapshot_of, placed_op, op_reads}

-- the state after core c's entry x went to its line, which left these caches
abbrev pub drained_state : State → moesi.CacheState → ℕ → Entry → List Entry → State
drained_state s caches c x xs = performed (written (with_buffer s c xs) caches x.addr x.event) x.event

-- the store that leaves is that of its event, and so is each that stays
pub stores_out : (p : List (List Op)) (c : ℕ) (front : List Entry) (x : Entry) (back : List Entry)
    → AreStores p c (front ++ x ∷ back)
    → (placed_op p x.event ≡ (c, St x.addr x.value)) × AreStores p c (front ++ back)
stores_out p c [] x back h = (h.0, h.1)
stores_out p c (y ∷ front) x back h =
    let rest = stores_out p c front x back h.1 in
    (rest.0, (h.0, rest.1))

module _ (p : List (List Op)) (s : State) (caches : moesi.CacheState) (c : ℕ) (x : Entry)
    (at : c < length s.buffers) where
  -- the drain of a waiting entry is one of event numbers
  pub drains : (front back : List Entry) → buffer_of s c ≡ front ++ x ∷ back → AreStores p c (front ++ x ∷ back)
      → Drains (static_of p s) (snapshot_of p s) (snapshot_of p (drained_state s caches c x (front ++ back))) c
      x.event (map (λ (y : Entry). y.event) front)
  drains front back is stores = record {
    back = map (λ (y : Entry). y.event) back;
    performed = refl;
    was = ap (map (λ (y : Entry). y.event)) is ∙ map-append (λ (y : Entry). y.event) front (x ∷ back);
    is = ap (map (λ (y : Entry). y.event)) (get_or-set_same s.buffers c (front ++ back) [] at)
        ∙ map-append (λ (y : Entry). y.event) front back;
    others = λ d other. ap (map (λ (y : Entry). y.event))
        (get_or-set_other s.buffers c d (front ++ back) [] other);
    next = λ d. refl;
    source = λ e. refl;
    reads = ap (λ (z : ℕ × Op). op_reads z.1) (stores_out p c front x back stores).0;
  }

  -- a drain keeps the count
  pub drain_counted : (front back : List Entry) → buffer_of s c ≡ front ++ x ∷ back
      → AreStores p c (front ++ x ∷ back) → IsCounted (static_of p s) (snapshot_of p s)
      → IsCounted (static_of p (drained_state s caches c x (front ++ back)))
      (snapshot_of p (drained_state s caches c x (front ++ back)))
  drain_counted front back is stores counted =
      counted_kept counted (drain_counts counted (drains front back is stores))

  -- a drain of the oldest store keeps the order
  pub drain_ordered : (xs : List Entry) → buffer_of s c ≡ x ∷ xs → AreStores p c (x ∷ xs)
      → IsCounted (static_of p s) (snapshot_of p s) → IsOrdered (static_of p s) (snapshot_of p s)
      → IsOrdered (static_of p (drained_state s caches c x xs)) (snapshot_of p (drained_state s caches c x xs))
  drain_ordered xs is stores counted ordered =
      let d = drains [] xs is stores in
      ordered_kept counted ordered (drain_counts counted d) (drain_orders counted ordered d)

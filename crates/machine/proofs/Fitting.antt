-- What every step without fault keeps of the sizes of a state, so that every such run leads to one that is
-- orderly.
use Rattle.std.proofs.Common.{◌≡◌, ◌<◌, ◌≤◌, ◌+◌, inl, inr, ℕ, cond, Ok, List, [], ◌∷◌, ◌++◌, take, length, get_or}
use Rattle.std.proofs.Common.{slice_set, arith, ap, ◌∙◌, get_or-set_same, get_or-set_other, length-set, length-append}
use Rattle.std.specs.List.{All, sum, sum_by, count_by}
use Rattle.std.proofs.lemmas.List.{length-replicate}
use Rattle.std.proofs.lemmas.List.Folds.{sum_by-replicate}
use Rattle.std.proofs.lemmas.List.Sums.{sum_by-set, sum_by_more}
use Rattle.std.proofs.lemmas.Bool.{cases_eq}
use Rattle.program.specs.declared.op.Op.{Op}
use Rattle.program.specs.declared.op.Op.TheVariants.{St, Fence}
use Rattle.program.specs.Parts.{IsWithin}
use Rattle.write_buffer.specs.declared.entry.Entry.{Entry}
use Rattle.moesi.specs.State as moesi
use Rattle.program.specs.declared.fault.Fault.TheVariants as fault
use Rattle.machine.specs.State.{State, place_of, buffer_of, opening}
use Rattle.machine.specs.declared.step.Step.{Step}
use Rattle.machine.specs.Step.{run}
use Rattle.program_events.specs.Operations.{placed_op, is_st}
use Rattle.machine.specs.Orderly.{IsOrderly, EveryStateIsOrderly}
use Rattle.machine.proofs.DrainEvents.{drained_state}
use Rattle.machine.proofs.ExecuteEvents.{IsNext}
use Rattle.machine.proofs.Rows.{IsKept, stored_state, run_kept}
use Rattle.machine.proofs.InOrder.{IsInOrder, in_order_kept}
use Rattle.machine.proofs.Opening.{get_or_same, op_within, opening_in_order}

-- what fits: no core waits for more stores than it executed, none is past its end, and each executed event
-- was performed or waits
pub record IsFitting (p : List (List Op)) (n : ℕ) (s : State) : Type 0 where
  pub in_order : IsInOrder p s
  pub few : (c : ℕ) → length (buffer_of s c) ≤ count_by is_st (take (place_of s c) (get_or p c []))
  pub places : (c : ℕ) → place_of s c ≤ length (get_or p c [])
  pub lists : length s.write_lists ≡ n
  pub counted : sum s.places ≡ length s.performed + sum_by (λ b. length b) s.buffers

-- one event more at the end
pushed : {A : Type 0} (xs : List A) (x : A) → length (xs ++ x ∷ []) ≡ length xs + 1
pushed xs x = length-append xs (x ∷ [])

module _ {p : List (List Op)} {n : ℕ} {s : State} (f : IsFitting p n s) where
  module _ (c b : ℕ) (op : Op) (at : IsNext p s c b op) where
    -- one core goes on by one operation
    place_up : (d : ℕ) → get_or (slice_set s.places c (place_of s c + 1)) d 0 ≤ length (get_or p d [])
    place_up d = elim (cases_eq d c) [
      | inl own ↦ rw own (omega (arith, get_or-set_same s.places c (place_of s c + 1) 0 at.core, at.there))
      | inr other ↦ omega (arith, get_or-set_other s.places c d (place_of s c + 1) 0 other, f.places d)
    ]

    -- all places together too
    sum_up : sum (slice_set s.places c (place_of s c + 1)) ≡ sum s.places + 1
    sum_up = omega (arith, sum_by-set (λ (x : ℕ). x) s.places c (place_of s c + 1) 0 at.core)

    -- a core that goes on has executed no fewer stores
    few_up : (d : ℕ) → count_by is_st (take (place_of s d) (get_or p d []))
        ≤ count_by is_st (take (get_or (slice_set s.places c (place_of s c + 1)) d 0) (get_or p d []))
    few_up d = elim (cases_eq d c) [
      | inl own ↦ rw own (omega (
        arith,
        ap (λ (i : ℕ). count_by is_st (take i (get_or p c [])))
            (get_or-set_same s.places c (place_of s c + 1) 0 at.core),
        sum_by_more (λ o. cond (is_st o) 1 0) (get_or p c []) (place_of s c) Fence at.there,
      ))
      | inr other ↦ omega (
        arith,
        ap (λ (i : ℕ). count_by is_st (take i (get_or p d [])))
            (get_or-set_other s.places c d (place_of s c + 1) 0 other),
      )
    ]

  -- a drain keeps what fits
  drain_fits : (caches : moesi.CacheState) (c : ℕ) (x : Entry) (front back : List Entry) → c < length p
      → buffer_of s c ≡ front ++ x ∷ back → (fault.None ≡ fault.None → front ≡ [])
      → moesi.write s.caches c x.addr x.value x.event ≡ Ok caches
      → IsFitting p n (drained_state s caches c x (front ++ back))
  drain_fits caches c x front back at is first wrote =
      let inside : c < length s.buffers = omega (arith, at, f.in_order.steady.buffers) in
      let xs : List Entry = front ++ back in
      let shorter : length xs + 1 ≡ length (buffer_of s c) = omega (
        arith,
        ap (λ (l : List Entry). length l) is,
        length-append front (x ∷ back),
        length-append front back,
      ) in
      record {
        in_order = (in_order_kept f.in_order).drain caches c x front back at is first wrote;
        few = λ d. elim (cases_eq d c) [
          | inl own ↦ rw own (omega (
            arith,
            ap (λ (l : List Entry). length l) (get_or-set_same s.buffers c xs [] inside),
            shorter,
            f.few c,
          ))
          | inr other ↦ omega (
            arith,
            ap (λ (l : List Entry). length l) (get_or-set_other s.buffers c d xs [] other),
            f.few d,
          )
        ];
        places = f.places;
        lists = length-set s.write_lists x.addr (get_or s.write_lists x.addr [] ++ x.event ∷ []) ∙ f.lists;
        counted = omega (
          arith,
          f.counted,
          pushed s.performed x.event,
          sum_by-set (λ (b : List Entry). length b) s.buffers c xs [] inside,
          shorter,
        );
      }

  -- a store keeps what fits
  store_fits : (c b a v : ℕ) → IsNext p s c b (St a v) → c < length p → IsFitting p n (stored_state s c b a v)
  store_fits c b a v at core =
      let inside : c < length s.buffers = omega (arith, core, f.in_order.steady.buffers) in
      let more : List Entry = buffer_of s c ++ record { addr = a; value = v; event = b } ∷ [] in
      record {
        in_order = (in_order_kept f.in_order).store c b a v at core;
        few = λ d. elim (cases_eq d c) [
          | inl own ↦ rw own (omega (
            arith,
            ap (λ (l : List Entry). length l) (get_or-set_same s.buffers c more [] inside),
            pushed (buffer_of s c) (record { addr = a; value = v; event = b }),
            ap (λ (i : ℕ). count_by is_st (take i (get_or p c [])))
                (get_or-set_same s.places c (place_of s c + 1) 0 at.core),
            sum_by_more (λ o. cond (is_st o) 1 0) (get_or p c []) (place_of s c) Fence at.there,
            ap {B = ℕ} (λ (o : Op). cond (is_st o) 1 0) at.operation,
            f.few c,
          ))
          | inr other ↦ omega (
            arith,
            ap (λ (l : List Entry). length l) (get_or-set_other s.buffers c d more [] other),
            f.few d,
            few_up c b (St a v) at d,
          )
        ];
        places = place_up c b (St a v) at;
        lists = f.lists;
        counted = omega (
          arith,
          f.counted,
          sum_up c b (St a v) at,
          sum_by-set (λ (l : List Entry). length l) s.buffers c more [] inside,
          pushed (buffer_of s c) (record { addr = a; value = v; event = b }),
        );
      }

  -- each row keeps what fits
  fitting_kept : IsKept p fault.None s (IsFitting p n)
  fitting_kept = record {
    drain = drain_fits;
    store = store_fits;
    look = λ c b op what at is. record {
      in_order = (in_order_kept f.in_order).look c b op what at is;
      few = λ d. omega (arith, f.few d, few_up c b op at d);
      places = place_up c b op at;
      lists = f.lists;
      counted = omega (arith, f.counted, sum_up c b op at, pushed s.performed b);
    };
    rmw = λ caches c b a op at core is empty wrote. record {
      in_order = (in_order_kept f.in_order).rmw caches c b a op at core is empty wrote;
      few = λ d. omega (arith, f.few d, few_up c b op at d);
      places = place_up c b op at;
      lists = length-set s.write_lists a (get_or s.write_lists a [] ++ b ∷ []) ∙ f.lists;
      counted = omega (arith, f.counted, sum_up c b op at, pushed s.performed b);
    };
    transact = λ caches c a core within any made. record {
      in_order = (in_order_kept f.in_order).transact caches c a core within any made;
      few = f.few;
      places = f.places;
      lists = f.lists;
      counted = f.counted;
    };
  }

-- the opening state fits
opening_fits : (p : List (List Op)) (init : List ℕ) → All (λ ops. All (IsWithin (length init)) ops) p
    → IsFitting p (length init) (opening p init)
opening_fits p init fits = record {
  in_order = opening_in_order p init fits;
  few = λ c. omega (arith, ap (λ (l : List Entry). length l) (get_or_same {A = List Entry} (length p) c []));
  places = λ c. omega (arith, get_or_same {A = ℕ} (length p) c 0);
  lists = length-replicate {A = List ℕ} (length init) [];
  counted = omega (
    arith,
    sum_by-replicate (λ (k : ℕ). k) (length p) 0,
    sum_by-replicate (λ (b : List Entry). length b) (length p) [],
  );
}

-- a state that fits is orderly
orderly : (p : List (List Op)) (n : ℕ) (s : State) → ((e : ℕ) → IsWithin n (placed_op p e).1)
    → IsFitting p n s → IsOrderly p n s
orderly p n s within f = record {
  places = f.in_order.steady.places;
  within = f.places;
  buffers = f.in_order.steady.buffers;
  lists = f.lists;
  blocks = omega (arith, f.lists, f.in_order.steady.listed.cells);
  lines = λ a inside. omega (
    arith,
    f.in_order.coherent.lines a
        (omega (arith, inside, f.lists, f.in_order.steady.listed.cells)),
    f.in_order.steady.cores,
  );
  addresses = within;
  counted = f.counted;
  once = λ e done. f.in_order.steady.counted.listed e done.0 done.1;
  executed = λ c e there. f.in_order.steady.counted.executed c e there;
  stores = f.in_order.steady.stores;
  few = f.few;
  kept = λ e f' own done strong. f.in_order.ordered.kept e f' own done.1 strong;
}

-- every run without fault leads to such a state
pub every_state_is_orderly : (p : List (List Op)) (init : List ℕ) (capacity : ℕ) (steps : List Step)
    → EveryStateIsOrderly p init capacity steps
every_state_is_orderly p init capacity steps fits =
    orderly p (length init) (run p capacity fault.None (opening p init) steps) (op_within p init fits)
    (run_kept p capacity fault.None (IsFitting p (length init))
    (λ s f. (fitting_kept f, f.in_order.steady.places)) steps (opening p init) (opening_fits p init fits))

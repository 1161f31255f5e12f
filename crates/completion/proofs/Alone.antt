-- Values as an execution without sources and write lists, beside what completes them.
use Rattle.std.proofs.Common.{◌≡◌, ◌<◌, ◌+◌, ◌&&◌, ℕ, Bool, List, [], ◌∷◌, ◌++◌, map, length}
use Rattle.std.proofs.Common.{get_or, arith, refl, sym, ap, ◌∙◌}
use Rattle.std.proofs.Math.ListN as lists
use Rattle.std.proofs.lemmas.List.{length-map, get_or_default}
use Rattle.recording.specs.declared.event.Event.{Event}
use Rattle.recording.specs.declared.event.Event.TheVariants.{L, S, R, C, F}
use Rattle.recording.specs.Event.{is_plain_store, is_plain_load, read_address, written_address, value_read}
use Rattle.recording.specs.Event.{value_written}
use Rattle.recording.specs.Execution.{Execution, placed_from, event_count, core_of, event_at, initial_value, Reads}
use Rattle.recording.specs.Execution.{Writes}
use Rattle.recording.specs.Execution.{ProgramOrder, Kept}
use Rattle.recording.specs.EventLaws.{Writes-event}
use Rattle.values.specs.Values.{unsourced, Values, IsCompletion}
use Rattle.values.specs.Refused.{events_alone}
use Rattle.completion.specs.declared.table.Placed.{Placed}
use Rattle.completion.specs.Pairs.{IsTable, pair_of}
use Rattle.completion.proofs.Covers.{unsourced_same}
use Rattle.completion.proofs.Hopeful.{same_address, same_value}

-- a source makes no write, and no load
pub same_write : (ev : Event) → written_address (unsourced ev) ≡ written_address ev
same_write (L a r o) = refl
same_write (S a w) = refl
same_write (R a r o w) = refl
same_write (C a r o) = refl
same_write F = refl

pub same_written : (ev : Event) → value_written (unsourced ev) ≡ value_written ev
same_written (L a r o) = refl
same_written (S a w) = refl
same_written (R a r o w) = refl
same_written (C a r o) = refl
same_written F = refl

same_load : (ev : Event) → is_plain_load (unsourced ev) ≡ is_plain_load ev
same_load (L a r o) = refl
same_load (S a w) = refl
same_load (R a r o w) = refl
same_load (C a r o) = refl
same_load F = refl

-- an event with its core, without its source
abbrev pub placed_unsourced : ℕ × Event → ℕ × Event
placed_unsourced p = (p.0, unsourced p.1)

-- the events of one core, and the rest
tagged_unsourced : (k : ℕ) (es : List Event) (rest more : List (ℕ × Event)) → rest ≡ map placed_unsourced more
    → map (λ (e : Event). (k, e)) (map unsourced es) ++ rest
    ≡ map placed_unsourced (map (λ (e : Event). (k, e)) es ++ more)
tagged_unsourced k [] rest more h = h
tagged_unsourced k (e ∷ es) rest more h =
    let one : ℕ × Event = (k, unsourced e) in
    ap (λ (l : List (ℕ × Event)). one ∷ l) (tagged_unsourced k es rest more h)

-- of all cores
pub placed_alone : (k : ℕ) (cores : List (List Event))
    → placed_from k (map (λ es. map unsourced es) cores) ≡ map placed_unsourced (placed_from k cores)
placed_alone k [] = refl
placed_alone k (es ∷ cores) = tagged_unsourced k es (placed_from (k + 1) (map (λ fs. map unsourced fs) cores))
    (placed_from (k + 1) cores) (placed_alone (k + 1) cores)

module _ (v : Values) (x : Execution) (h : map (map unsourced) x.cores ≡ v.cores) where
  -- their events are those of the execution
  placed_is : placed_from 0 v.cores ≡ map placed_unsourced (placed_from 0 x.cores)
  placed_is = sym (ap (placed_from 0) h) ∙ placed_alone 0 x.cores

  at_number : (e : ℕ) → get_or (placed_from 0 v.cores) e (0, F)
      ≡ placed_unsourced (get_or (placed_from 0 x.cores) e (0, F))
  at_number e =
      let fence : ℕ × Event = (0, F) in
      ap (λ (l : List (ℕ × Event)). get_or l e fence) placed_is
      ∙ lists.get_or-map placed_unsourced (placed_from 0 x.cores) e fence

  pub event_with : (e : ℕ) → event_at (events_alone v) e ≡ unsourced (event_at x e)
  unfolding event_at
  event_with e = ap (λ (p : ℕ × Event). p.1) (at_number e)

  pub core_with : (e : ℕ) → core_of (events_alone v) e ≡ core_of x e
  unfolding core_of
  core_with e = ap (λ (p : ℕ × Event). p.0) (at_number e)

  pub count_with : event_count (events_alone v) ≡ event_count x
  unfolding event_count
  count_with = ap (λ (l : List (ℕ × Event)). length l) placed_is ∙ length-map (placed_from 0 x.cores) placed_unsourced

  pub reads_with : (e a : ℕ) → Reads (events_alone v) e a → Reads x e a
  reads_with e a r = sym (same_address (event_at x e)) ∙ (ap read_address (sym (event_with e)) ∙ r)

  pub with_reads : (e a : ℕ) → Reads x e a → Reads (events_alone v) e a
  with_reads e a r = ap read_address (event_with e) ∙ (same_address (event_at x e) ∙ r)

  pub writes_with : (e a : ℕ) → Writes (events_alone v) e a → Writes x e a
  writes_with e a w = sym (same_write (event_at x e)) ∙ (ap written_address (sym (event_with e)) ∙ w)

  pub with_writes : (e a : ℕ) → Writes x e a → Writes (events_alone v) e a
  with_writes e a w = ap written_address (event_with e) ∙ (same_write (event_at x e) ∙ w)

  pub value_with : (e : ℕ) → value_read (event_at (events_alone v) e) ≡ value_read (event_at x e)
  value_with e = ap value_read (event_with e) ∙ same_value (event_at x e)

  pub written_with : (e : ℕ) → value_written (event_at (events_alone v) e) ≡ value_written (event_at x e)
  written_with e = ap value_written (event_with e) ∙ same_written (event_at x e)

  pub order_with : (e f : ℕ) → ProgramOrder (events_alone v) e f → ProgramOrder x e f
  order_with e f p = (p.0, omega (arith, p.1, count_with), sym (core_with e) ∙ (p.2 ∙ core_with f))

  pub with_order : (e f : ℕ) → ProgramOrder x e f → ProgramOrder (events_alone v) e f
  with_order e f p = (p.0, omega (arith, p.1, count_with), core_with e ∙ (p.2 ∙ sym (core_with f)))

  pub kept_with : (e f : ℕ) → Kept (events_alone v) e f → Kept x e f
  kept_with e f k = (
    order_with e f k.0,
    ap (λ (b : Bool). b && is_plain_load (event_at x f))
        (sym (ap is_plain_store (event_with e) ∙ unsourced_same (event_at x e)))
        ∙ (ap (λ (b : Bool). is_plain_store (event_at (events_alone v) e) && b)
        (sym (ap is_plain_load (event_with f) ∙ same_load (event_at x f))) ∙ k.1),
  )

  pub with_kept : (e f : ℕ) → Kept x e f → Kept (events_alone v) e f
  with_kept e f k = (
    with_order e f k.0,
    ap (λ (b : Bool). b && is_plain_load (event_at (events_alone v) f))
        (ap is_plain_store (event_with e) ∙ unsourced_same (event_at x e))
        ∙ (ap (λ (b : Bool). is_plain_store (event_at x e) && b)
        (ap is_plain_load (event_with f) ∙ same_load (event_at x f)) ∙ k.1),
  )

module _ (v : Values) (x : Execution) (m : List ℕ) (h : IsCompletion v x m) where
  pub reads_alone : (e a : ℕ) → Reads (events_alone v) e a → Reads x e a
  reads_alone = reads_with v x h.cores

  pub writes_alone : (e a : ℕ) → Writes (events_alone v) e a → Writes x e a
  writes_alone = writes_with v x h.cores

  pub alone_writes : (e a : ℕ) → Writes x e a → Writes (events_alone v) e a
  alone_writes = with_writes v x h.cores

  pub value_alone : (e : ℕ) → value_read (event_at (events_alone v) e) ≡ value_read (event_at x e)
  value_alone = value_with v x h.cores

  pub written_alone : (e : ℕ) → value_written (event_at (events_alone v) e) ≡ value_written (event_at x e)
  written_alone = written_with v x h.cores

  pub initial_alone : (a : ℕ) → initial_value (events_alone v) a ≡ initial_value x a
  initial_alone a = ap (λ (l : List ℕ). get_or l a 0) (sym h.initial)

  pub order_alone : (e f : ℕ) → ProgramOrder (events_alone v) e f → ProgramOrder x e f
  order_alone = order_with v x h.cores

  pub alone_order : (e f : ℕ) → ProgramOrder x e f → ProgramOrder (events_alone v) e f
  alone_order = with_order v x h.cores

  pub kept_alone : (e f : ℕ) → Kept (events_alone v) e f → Kept x e f
  kept_alone = kept_with v x h.cores

-- Tables

-- a table has as many events
pub table_size : (v : Values) (items : List Placed) → IsTable v items
    → length items ≡ event_count (events_alone v)
unfolding event_count
table_size v items h = sym (length-map items pair_of) ∙ ap (λ (l : List (ℕ × Event)). length l) h

-- at the number of each event what it does
table_at : (v : Values) (items : List Placed) (e : ℕ) (d : Placed) → IsTable v items → e < length items
    → get_or (placed_from 0 v.cores) e (0, F) ≡ pair_of (get_or items e d)
table_at v items e d h there =
    let fence : ℕ × Event = (0, F) in
    ap (λ (l : List (ℕ × Event)). get_or l e fence) (sym h)
    ∙ (get_or_default (map pair_of items) e fence (pair_of d) (omega (arith, there, length-map items pair_of))
    ∙ lists.get_or-map pair_of items e d)

pub table_event : (v : Values) (items : List Placed) (e : ℕ) (d : Placed) → IsTable v items → e < length items
    → event_at (events_alone v) e ≡ (get_or items e d).event
unfolding event_at
table_event v items e d h there = ap (λ (p : ℕ × Event). p.1) (table_at v items e d h there)

-- and its core
pub table_core : (v : Values) (items : List Placed) (e : ℕ) (d : Placed) → IsTable v items → e < length items
    → core_of (events_alone v) e ≡ (get_or items e d).core
unfolding core_of
table_core v items e d h there = ap (λ (p : ℕ × Event). p.0) (table_at v items e d h there)

-- what writes stands in the table
pub write_inside : (v : Values) (items : List Placed) (w a : ℕ) → IsTable v items → Writes (events_alone v) w a
    → w < length items
write_inside v items w a h writes = omega (arith, Writes-event (events_alone v) w a writes, table_size v items h)

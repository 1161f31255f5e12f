-- Recordings of values that leave no choice, made of the first sources and of all writes.
use Rattle.std.proofs.Common.{◌≡◌, ◌<◌, ◌≤◌, ℕ, Option, Some, None, IfSome, List, [], map, length, get_or, arith, refl, sym, subst}
use Rattle.common.specs.declared.limits.TheConstants.{MAX_EVENTS}
use Rattle.recording.specs.declared.event.Event.{Event}
use Rattle.recording.specs.EventLaws.{Reads-event}
use Rattle.recording.specs.Execution.{Execution, event_count, source_of, Reads, Writes}
use Rattle.recording.specs.Order.{Enumerates, times}
use Rattle.recording.specs.Recording.{executed}
use Rattle.values.specs.Refused.{events_alone}
use Rattle.values.specs.Values.{Values, unsourced}
use Rattle.completion.specs.declared.table.Placed.{Placed}
use Rattle.completion.specs.Only.{AreDetermined, HasValues, IsFeeder, IsOnlyRecording, LeaveNoChoice}
use Rattle.completion.specs.Pairs.{IsTable}
use Rattle.completion.specs.Performed.{AreSourced, HaveRoom, writers}
use Rattle.completion.proofs.Alone.{reads_with, table_size}
use Rattle.completion.proofs.Made.{source_right}
use Rattle.completion.proofs.OrderLists.{writers_all}
use Rattle.completion.proofs.Same.{made_same}

-- a recording of them is the only one, by the law of values that leave no choice
pub only_where : (v : Values) (o : Option Execution)
    → ((x : Execution) → AreDetermined v → HasValues v x → IsOnlyRecording v x)
    → LeaveNoChoice v → IfSome o (HasValues v) → IfSome o (IsOnlyRecording v)
only_where v None law is has = tt
only_where v (Some x) law is has = law x (record {
  sources = λ e s t ours theirs. (is e).sources s t ours theirs;
  writes = λ a w u ours theirs. (is w).writes a u ours theirs;
}) has

module _ (v : Values) (items : List Placed) (h : IsTable v items) (room : HaveRoom v) where
  -- a table of them has few events
  pub few_placed : length items ≤ MAX_EVENTS
  few_placed = omega (arith, table_size v items h, room.few_events)

  module _ (numbers : List ℕ) (all : Enumerates (λ e. e < length items) numbers) where
    -- the numbers of the table are those of the events
    pub number_inside : (e : ℕ) → 0 < times numbers e → e < event_count (events_alone v)
    number_inside e there = omega (arith, all.nothing_else e there, table_size v items h)

    listed : Enumerates (λ e. e < event_count (events_alone v)) numbers
    listed = subst (λ (n : ℕ). Enumerates (λ e. e < n) numbers) (table_size v items h) all

    -- so what is made of them is each recording that has the values
    pub made_of_all : LeaveNoChoice v → (sources : List (Option ℕ)) (cores : List (List Event)) (lists : List (List ℕ))
        → ((e : ℕ) → e < length items → IsFeeder v e (get_or sources e None))
        → map (λ es. map unsourced es) cores ≡ v.cores
        → ((c : ℕ) → c < length v.cores → AreSourced v sources c (get_or cores c []))
        → length lists ≡ length v.initial
        → ((a : ℕ) → a < length v.initial → get_or lists a [] ≡ writers v a numbers)
        → (x : Execution) → HasValues v x → executed cores lists v.initial ≡ x
    made_of_all is sources cores lists feeders same sourced size written x has =
        made_same v x made is has same refl size fed
        (λ a low. subst (Enumerates (λ e. Writes (events_alone v) e a)) (sym (written a low)) (writers_all v a numbers listed))
      where
        made : Execution
        made = executed cores lists v.initial

        fed : (e a : ℕ) → Reads (events_alone v) e a → IsFeeder v e (source_of made e)
        fed e a reads = subst (IsFeeder v e)
            (sym (source_right v sources made same room sourced e a (reads_with v made same e a reads)))
            (feeders e (omega (arith, Reads-event (events_alone v) e a reads, table_size v items h)))

use Rattle.std.proofs.Common.{◌≡◌, ◌<◌, ℕ, length, slice_index, slice_index_or}
use Rattle.relations.specs.declared.indexed.IndexedEvent.{IndexedEvent}
use Rattle.relations.specs.Indexed.{IsIndexed}
use Rattle.long.proofs.placed_list.PlacedList.of.Given as goal

abbrev pub invariant-loop-i : goal.invariant-loop-i
invariant-loop-i l = record {
  size : length l.events.items ≡ l.i;
  each : (k : ℕ) (d : IndexedEvent) → k < length l.events.items
      → IsIndexed l.places (slice_index_or l.events.items k d)
      × ((slice_index_or l.events.items k d).number ≡ slice_index l.numbers k);
}

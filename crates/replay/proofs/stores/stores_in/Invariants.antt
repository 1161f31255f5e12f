use Rattle.std.proofs.Common.{◌≡◌, ◌≤◌, ◌+◌, count_by, drop}
use Rattle.recording.specs.Event.{is_plain_store}
use Rattle.replay.proofs.stores.stores_in.Given as goal

abbrev pub invariant-loop-event : goal.invariant-loop-event
invariant-loop-event l = record {
  counted : l.found + count_by is_plain_store (drop l.event-index l.events) ≡ count_by is_plain_store
      l.events;
  few : l.found ≤ l.event-index;
}

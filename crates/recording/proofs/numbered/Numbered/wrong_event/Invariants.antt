use Rattle.std.proofs.Common.{◌<◌, ℕ}
use Rattle.recording.specs.Listed.{HasListsOf}
use Rattle.recording.proofs.Refused.{AreReadsBelow}
use Rattle.recording.proofs.Walks.{IsCore, IsReached}
use Rattle.recording.proofs.numbered.Numbered.wrong_event.Given as goal

abbrev pub invariant-loop-events : goal.invariant-loop-events
invariant-loop-events l = record {
  reached : IsReached l.self l.events-index 0 l.number;
  lists : (e : ℕ) → e < l.number → HasListsOf l.self e;
  reads : AreReadsBelow l.self l.number l.source l.value;
}

abbrev pub invariant-loop-event : goal.invariant-loop-event
invariant-loop-event l = record {
  core : IsCore l.self l.events-index l.event-items;
  reached : IsReached l.self l.events-index l.event-index l.number;
  lists : (e : ℕ) → e < l.number → HasListsOf l.self e;
  reads : AreReadsBelow l.self l.number l.source l.value;
}

use Rattle.std.proofs.Common.{◌≡◌, ◌+◌, length}
use Rattle.relations.specs.Indexed.{AreIndexedSoFar, events_below}
use Rattle.relations.proofs.indexed.put_core.Given as goal

abbrev pub invariant-loop-i : goal.invariant-loop-i
invariant-loop-i l =
    (length l.events.items ≡ events_below l.recording l.core + l.i) × AreIndexedSoFar l.recording l.events.items

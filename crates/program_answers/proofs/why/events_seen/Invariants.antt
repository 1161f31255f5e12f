use Rattle.std.proofs.Common.{◌≡◌, ◌+◌, [], drop}
use Rattle.program_answers.specs.Why.{events_seen}
use Rattle.program_answers.proofs.why.events_seen.Given as goal

abbrev pub invariant-loop-i : goal.invariant-loop-i
invariant-loop-i l = events_seen l.first [] l.ops l.seen ≡ events_seen (l.first + l.i) l.events.items (drop l.i l.ops) l.seen

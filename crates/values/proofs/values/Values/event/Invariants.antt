use Rattle.std.proofs.Common.{◌≡◌, ◌+◌}
use Rattle.values.proofs.Walks.{count_before}
use Rattle.values.proofs.values.Values.event.Given as goal

abbrev pub invariant-loop-events : goal.invariant-loop-events
invariant-loop-events l = count_before l.self.cores l.events-index + l.rest ≡ l.number

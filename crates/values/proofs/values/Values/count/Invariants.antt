use Rattle.std.proofs.Common.{◌≡◌, ◌≤◌}
use Rattle.common.specs.declared.limits.TheConstants.{MAX_EVENTS}
use Rattle.values.proofs.Walks.{count_before}
use Rattle.values.proofs.values.Values.count.Given as goal

abbrev pub invariant-loop-events : goal.invariant-loop-events
invariant-loop-events l =
    record { counted : l.count ≡ count_before l.self.cores l.events-index; few : l.count ≤ MAX_EVENTS }

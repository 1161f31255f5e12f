use Rattle.std.proofs.Common.{◌≡◌, drop}
use Rattle.outcomes.specs.Observed.{explains}
use Rattle.outcomes.proofs.observed.some_shows.Given as goal

abbrev pub invariant-loop-outcome : goal.invariant-loop-outcome
invariant-loop-outcome l = explains l.outcomes l.seen ≡ explains (drop l.outcome-index l.outcomes) l.seen

use Rattle.std.proofs.Common.{◌≡◌, drop}
use Rattle.outcomes.specs.Witness.{first_showing}
use Rattle.outcomes.proofs.witness.first_showing.Given as goal

abbrev pub invariant-loop-outcome : goal.invariant-loop-outcome
invariant-loop-outcome l = first_showing l.outcomes l.seen ≡ first_showing (drop l.outcome-index l.outcomes) l.seen

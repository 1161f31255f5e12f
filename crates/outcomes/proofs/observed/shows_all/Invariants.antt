use Rattle.std.proofs.Common.{◌≡◌, drop}
use Rattle.outcomes.specs.Observed.{shows_all}
use Rattle.outcomes.proofs.observed.shows_all.Given as goal

abbrev pub invariant-loop-one : goal.invariant-loop-one
invariant-loop-one l = shows_all l.outcome l.seen ≡ shows_all l.outcome (drop l.one-index l.seen)

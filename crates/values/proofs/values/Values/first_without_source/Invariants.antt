use Rattle.std.proofs.Common.{◌<◌, ℕ}
use Rattle.values.specs.Refused.{HasKnownSource}
use Rattle.values.proofs.values.Values.first_without_source.Given as goal

abbrev pub invariant-loop-number : goal.invariant-loop-number
invariant-loop-number l = (e : ℕ) → e < l.number → HasKnownSource l.self e

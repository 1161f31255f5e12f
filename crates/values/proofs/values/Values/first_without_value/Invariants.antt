use Rattle.std.proofs.Common.{◌<◌, ℕ}
use Rattle.values.specs.Refused.{HasKnownValue}
use Rattle.values.proofs.values.Values.first_without_value.Given as goal

abbrev pub invariant-loop-number : goal.invariant-loop-number
invariant-loop-number l = (e : ℕ) → e < l.number → HasKnownValue l.self e

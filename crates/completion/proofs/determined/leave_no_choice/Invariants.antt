use Rattle.std.proofs.Common.{◌<◌, ℕ}
use Rattle.completion.specs.Only.{HasNoChoice}
use Rattle.completion.proofs.determined.leave_no_choice.Given as goal

abbrev pub invariant-loop-e : goal.invariant-loop-e
invariant-loop-e l = (e : ℕ) → e < l.e → HasNoChoice l.values e

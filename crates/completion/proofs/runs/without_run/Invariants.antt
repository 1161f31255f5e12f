use Rattle.std.proofs.Common.{◌≡◌, length}
use Rattle.completion.proofs.runs.without_run.Given as goal

abbrev pub invariant-loop-e : goal.invariant-loop-e
invariant-loop-e l = length l.rest ≡ l.count

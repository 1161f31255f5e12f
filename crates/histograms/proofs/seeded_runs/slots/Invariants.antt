use Rattle.std.proofs.Common.{◌≡◌, length}
use Rattle.histograms.proofs.seeded_runs.slots.Given as goal

abbrev pub invariant-loop : goal.invariant-loop
invariant-loop l = length l.slots.items ≡ l.counter

use Rattle.std.proofs.Common.{◌<◌, ◌≤◌, ℕ, take}
use Rattle.cycles.specs.Limits.{AreBeyond}
use Rattle.cycles.proofs.limits.first_beyond.Given as goal

abbrev pub invariant-loop-i : goal.invariant-loop-i
invariant-loop-i l = (m : ℕ) → 0 < m → m ≤ l.i → ¬ AreBeyond (take m l.words)

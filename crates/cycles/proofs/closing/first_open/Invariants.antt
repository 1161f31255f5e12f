use Rattle.std.proofs.Common.{◌<◌, ℕ}
use Rattle.cycles.specs.Closing.{Meets}
use Rattle.cycles.proofs.closing.first_open.Given as goal

abbrev pub invariant-loop-i : goal.invariant-loop-i
invariant-loop-i l = (i : ℕ) → i < l.i → Meets l.words i

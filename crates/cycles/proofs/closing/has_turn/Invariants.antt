use Rattle.std.proofs.Common.{◌<◌, ℕ}
use Rattle.cycles.specs.Closing.{Turns}
use Rattle.cycles.proofs.closing.has_turn.Given as goal

abbrev pub invariant-loop-i : goal.invariant-loop-i
invariant-loop-i l = (i : ℕ) → i < l.i → ¬ Turns l.words i

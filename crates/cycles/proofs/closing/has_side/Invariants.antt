use Rattle.std.proofs.Common.{◌<◌, ℕ, IsTrue}
use Rattle.cycles.specs.Closing.{is_side, word_at}
use Rattle.cycles.proofs.closing.has_side.Given as goal

abbrev pub invariant-loop-i : goal.invariant-loop-i
invariant-loop-i l = (i : ℕ) → i < l.i → ¬ IsTrue (is_side (word_at l.words i))

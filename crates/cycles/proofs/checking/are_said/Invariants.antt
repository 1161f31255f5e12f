use Rattle.std.proofs.Common.{◌<◌, ℕ}
use Rattle.cycles.specs.Made.{IsSaidAt}
use Rattle.cycles.proofs.checking.are_said.Given as goal

abbrev pub invariant-loop-i : goal.invariant-loop-i
invariant-loop-i l = (i : ℕ) → i < l.i → IsSaidAt l.recording l.words l.events i

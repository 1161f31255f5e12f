use Rattle.std.proofs.Common.{◌<◌, ℕ}
use Rattle.cycles.specs.Made.{AreWritten}
use Rattle.cycles.proofs.checking.have_diy_values.Given as goal

abbrev pub invariant-loop-address : goal.invariant-loop-address
invariant-loop-address l = (a : ℕ) → a < l.address → AreWritten l.recording a

use Rattle.std.proofs.Common.{◌<◌, ℕ}
use Rattle.cycles.specs.Made.{HasLetter}
use Rattle.cycles.proofs.naming.have_letters.Given as goal

abbrev pub invariant-loop-address : goal.invariant-loop-address
invariant-loop-address l = (a : ℕ) → a < l.address → HasLetter l.names.keys a

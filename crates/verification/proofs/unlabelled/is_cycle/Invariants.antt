use Rattle.std.proofs.Common.{◌<◌, ℕ, get_or}
use Rattle.relations.specs.Cycle.{next_in_cycle}
use Rattle.relations.specs.Forced.{Forced}
use Rattle.verification.proofs.unlabelled.is_cycle.Given as goal

abbrev pub invariant-loop-i : goal.invariant-loop-i
invariant-loop-i l = (j : ℕ) → j < l.i → Forced l.places (get_or l.cycle j 0) (next_in_cycle l.cycle j)

use Rattle.std.proofs.Common.{◌<◌, ◌≤◌, ℕ, get_or}
use Rattle.labels.proofs.labelling.largest.Given as goal

abbrev pub invariant-loop-label : goal.invariant-loop-label
invariant-loop-label l = (e : ℕ) → e < l.label-index → get_or l.labels e 0 ≤ l.most

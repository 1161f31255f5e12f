use Rattle.std.proofs.Common.{◌<◌, ◌≤◌, ℕ, get_or}
use Rattle.texts.proofs.rows.greatest.Given as goal

abbrev pub invariant-loop-label : goal.invariant-loop-label
invariant-loop-label l = (i d : ℕ) → i < l.label-index → get_or l.labels i d ≤ l.greatest

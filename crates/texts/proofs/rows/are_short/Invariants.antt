use Rattle.std.proofs.Common.{◌<◌, ◌≤◌, ℕ, get_or}
use Rattle.texts.proofs.rows.are_short.Given as goal

abbrev pub invariant-loop-number : goal.invariant-loop-number
invariant-loop-number l = (i d : ℕ) → i < l.number-index → get_or l.numbers i d ≤ l.greatest

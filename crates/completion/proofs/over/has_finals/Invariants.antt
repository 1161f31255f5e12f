use Rattle.std.proofs.Common.{◌≡◌, ◌<◌, ℕ, Some, None, get_or, slice_index}
use Rattle.completion.proofs.over.has_finals.Given as goal

abbrev pub invariant-loop-a : goal.invariant-loop-a
invariant-loop-a l = (a n : ℕ) → a < l.a → get_or l.known a None ≡ Some n → slice_index l.row.memory a ≡ n

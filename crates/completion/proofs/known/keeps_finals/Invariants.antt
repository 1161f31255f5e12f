use Rattle.std.proofs.Common.{◌≡◌, ◌<◌, ℕ, Some, None, get_or}
use Rattle.values.specs.Final.{final_value}
use Rattle.completion.proofs.known.keeps_finals.Given as goal

abbrev pub invariant-loop-a : goal.invariant-loop-a
invariant-loop-a l = (a n : ℕ) → a < l.a → get_or l.known a None ≡ Some n → final_value l.recording a ≡ n

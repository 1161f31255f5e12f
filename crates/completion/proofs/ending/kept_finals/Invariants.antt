use Rattle.std.proofs.Common.{◌≡◌, ◌<◌, ℕ, Some, None, length, get_or}
use Rattle.values.specs.Values.{known_final}
use Rattle.completion.specs.Left.{IsInRow}
use Rattle.completion.specs.Part.{CanEnd}
use Rattle.completion.proofs.ending.kept_finals.Given as goal

abbrev pub invariant-loop-a : goal.invariant-loop-a
invariant-loop-a l = record {
  count : length l.finals.items ≡ l.a;
  kept : (a n : ℕ) → a < l.a → known_final l.values a ≡ Some n → CanEnd l.values (IsInRow l.row) a n
      → get_or l.finals.items a None ≡ Some n;
  gone : (a n : ℕ) → get_or l.finals.items a None ≡ Some n
      → (known_final l.values a ≡ Some n) × CanEnd l.values (IsInRow l.row) a n;
}

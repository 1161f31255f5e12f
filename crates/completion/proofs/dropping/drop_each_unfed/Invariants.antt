use Rattle.std.proofs.Common.{◌≡◌, ◌<◌, ℕ, true, false, Option, length}
use Rattle.completion.specs.Left.{member_count, IsInRow, LeavesFed}
use Rattle.completion.specs.Part.{IsFedAmong, MayFeed}
use Rattle.completion.proofs.dropping.drop_each_unfed.Given as goal

abbrev pub invariant-loop-e : goal.invariant-loop-e
invariant-loop-e l = record {
  size : length l.row ≡ length l.table;
  leaves : LeavesFed l.values l.fn.row l.row;
  fewer : l.dropped ≡ true → member_count l.row < member_count l.fn.row;
  fed : l.dropped ≡ false → (e : ℕ) (s : Option ℕ) → e < l.e → IsInRow l.row e → MayFeed l.values e s
      → IsFedAmong l.values (IsInRow l.row) e;
}

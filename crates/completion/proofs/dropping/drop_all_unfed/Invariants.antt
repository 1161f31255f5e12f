use Rattle.std.proofs.Common.{◌≡◌, ◌≤◌, ◌+◌, length}
use Rattle.completion.specs.Left.{member_count, LeavesFed}
use Rattle.completion.proofs.dropping.drop_all_unfed.Given as goal

abbrev pub invariant-loop-pass : goal.invariant-loop-pass
invariant-loop-pass l = record {
  size : length l.row ≡ length l.table;
  leaves : LeavesFed l.values l.fn.row l.row;
  few : member_count l.row + l.pass ≤ length l.table;
}

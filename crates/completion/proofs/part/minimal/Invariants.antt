use Rattle.std.proofs.Common.{◌≤◌, ◌+◌, length}
use Rattle.completion.specs.Left.{member_count, IsRefuted}
use Rattle.completion.proofs.part.minimal.Given as goal

abbrev pub invariant-loop-taken : goal.invariant-loop-taken
invariant-loop-taken l = record {
  refuted : IsRefuted l.values l.left;
  few : member_count l.left.row + l.taken ≤ length l.table;
}

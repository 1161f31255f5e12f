use Rattle.std.proofs.Common.{◌≤◌, length}
use Rattle.situations.specs.Chains.{AreChained}
use Rattle.situations.proofs.set.link_all.Given as goal

abbrev pub invariant-loop-number : goal.invariant-loop-number
invariant-loop-number l = record {
  chained : AreChained l.lists.lists l.number l.heads.items l.next.items;
  room : length l.lists.lists ≤ length l.next.items;
}

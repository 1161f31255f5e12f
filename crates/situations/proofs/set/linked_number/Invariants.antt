use Rattle.std.proofs.Common.{length}
use Rattle.situations.proofs.ChainedLists.{IsWalk}
use Rattle.situations.proofs.set.linked_number.Given as goal

abbrev pub invariant-loop-at : goal.invariant-loop-at
invariant-loop-at l = IsWalk l.lists.lists (length l.heads) l.list l.at

abbrev pub decreases-loop-at : goal.decreases-loop-at
decreases-loop-at l = l.at

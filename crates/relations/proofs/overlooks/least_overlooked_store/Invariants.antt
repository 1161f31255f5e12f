use Rattle.relations.proofs.Newer.{IsLeastSoFar}
use Rattle.relations.proofs.overlooks.least_overlooked_store.Given as goal

abbrev pub invariant-loop-i : goal.invariant-loop-i
invariant-loop-i l = IsLeastSoFar l.recording l.load l.list l.first l.i l.least

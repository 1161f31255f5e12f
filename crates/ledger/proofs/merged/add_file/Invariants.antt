use Rattle.std.proofs.Common.{length}
use Rattle.ledger.proofs.UnderWay.{AreUnderWay}
use Rattle.ledger.proofs.merged.add_file.Given as goal

abbrev pub invariant-texts : goal.invariant-texts
invariant-texts l = AreUnderWay l.kind l.fn.sum l.sum l.fn.bytes l.rest

abbrev pub decreases-texts : goal.decreases-texts
decreases-texts l = length l.rest

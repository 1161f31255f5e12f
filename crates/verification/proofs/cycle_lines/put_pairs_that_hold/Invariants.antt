use Rattle.verification.proofs.PairsHeld.{PairsGo}
use Rattle.verification.proofs.cycle_lines.put_pairs_that_hold.Given as goal

abbrev pub invariant-loop-i : goal.invariant-loop-i
invariant-loop-i l = PairsGo l.places l.size l.first l.last l.i l.fn.rest l.fn.out.items l.out.items l.rest

use Rattle.std.proofs.Common.{◌≡◌, ◌+◌, sum, take}
use Rattle.ledger.proofs.fitting.left_of.Given as goal

abbrev pub invariant-loop-count : goal.invariant-loop-count
invariant-loop-count l = l.left + sum (take l.count-index l.counts) ≡ l.total

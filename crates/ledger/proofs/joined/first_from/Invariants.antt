use Rattle.std.proofs.Common.{◌≡◌, drop}
use Rattle.ledger.specs.Ordered.{first_from}
use Rattle.ledger.proofs.joined.first_from.Given as goal

abbrev pub invariant-loop-section : goal.invariant-loop-section
invariant-loop-section l = first_from l.base l.order ≡ first_from l.base (drop l.section-index l.order)

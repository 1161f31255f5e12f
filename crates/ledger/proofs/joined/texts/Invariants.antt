use Rattle.std.proofs.Common.{◌≡◌, ◌++◌, drop, map}
use Rattle.ledger.proofs.joined.texts.Given as goal

abbrev pub invariant-loop-section : goal.invariant-loop-section
invariant-loop-section l = map (λ t. t.now) l.texts.items ++ map (λ s. s.text) (drop l.section-index l.order)
    ≡ map (λ s. s.text) l.order

use Rattle.std.proofs.Common.{ℕ, List, length, arith, ap}
use Rattle.labels.proofs.CertificateLemmas.{labelled_is_shortest}
use Rattle.labels.proofs.shortest.check.Goals as goal

pub returns-then-is_cycle-clause-shortest : goal.returns-then-is_cycle-clause-shortest
returns-then-is_cycle-clause-shortest c = λ yes.
    labelled_is_shortest c.args.relation.now c.args.certificate.now c.sound.ensures.within c.deref.ensures.value
    (omega (
      arith,
      c.len-size.ensures,
      c.deref.ensures.len,
      ap (λ (cycle : List ℕ). length cycle) c.deref.ensures.value,
    )) c.deref-then-is_cycle.ensures.value (c.is_cycle.ensures.0 c.if-is_cycle.true) (c.are_labellings.ensures.0 yes)

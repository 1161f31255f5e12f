use Rattle.std.proofs.Common.{ℕ, length, subst, sym}
use Rattle.relations.specs.Cycle.{IsCertificate}
use Rattle.relations.specs.Forced.{Forced}
use Rattle.labels.specs.Certified.{lists_of}
use Rattle.verdict_check.proofs.holding.is_certified_par.Goals as goal

pub returns : goal.returns
returns g c =
    let x = c.args.recording.now in
    let t = c.in_ok-relation.relation in
    let cycle = c.args.certificate.now.cycle.items in
    let rows = lists_of c.args.certificate.now.rows.items in
    let size = c.in_ok-relation.ensures.size in
    let related = c.in_ok-relation.ensures.related in
    let agree = c.relation_is_forced.ensures.certificates t x related (length t) cycle rows in (
      λ is. subst (λ (n : ℕ). IsCertificate (Forced x) n cycle rows) size (agree.0 (c.check_par.ensures.exact.0 is)),
      λ certified. c.check_par.ensures.exact.1
          (agree.1 (subst (λ (n : ℕ). IsCertificate (Forced x) n cycle rows) (sym size) certified)),
    )

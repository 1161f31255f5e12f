use Rattle.std.proofs.Common.{◌↔◌, IsTrue, ℕ, sym, subst}
use Rattle.recording.specs.Execution.{event_count}
use Rattle.relations.specs.Relation.{Related}
use Rattle.relations.specs.Cycle.{IsCertificate}
use Rattle.labels.specs.Certified.{lists_of}
use Rattle.verdicts.specs.declared.verdict.Verdict.{Verdict}
use Rattle.verdicts.specs.Verified.{Verifies}
use Rattle.verdict_check.proofs.holding.verify.Goals as goal

pub returns-in_ok-relation-in-Cycle-clause-exact : goal.returns-in_ok-relation-in-Cycle-clause-exact
returns-in_ok-relation-in-Cycle-clause-exact c =
    let x = c.args.recording.now in
    let t = c.in_ok-relation-in-Cycle.relation in
    let cycle = c.in-Cycle.certificate.cycle.items in
    let rows = lists_of c.in-Cycle.certificate.rows.items in
    let size = c.in_ok-relation-in-Cycle.ensures.size in
    let agree = c.relation_is_forced.ensures.certificates t x c.in_ok-relation-in-Cycle.ensures.related
    (event_count x) cycle rows in
    let exact = c.check.ensures.exact in
    subst (λ (v : Verdict). IsTrue c.check.result ↔ Verifies x v) (sym c.in-Cycle.is) (
      λ yes. agree.0 (subst (λ (n : ℕ). IsCertificate (Related t) n cycle rows) size (exact.0 yes)),
      λ verified. exact.1 (subst (λ (n : ℕ). IsCertificate (Related t) n cycle rows) (sym size)
          (agree.1 verified)),
    )

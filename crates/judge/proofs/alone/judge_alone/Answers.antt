use Rattle.std.proofs.Common.{Result, subst}
use Rattle.std.specs.Prelude.{IfErr}
use Rattle.relations.specs.Relation.{Table}
use Rattle.verdicts.specs.declared.verdict.Verdict.{Verdict}
use Rattle.judge.specs.LeastCertificate.{IsCyclicTable}
use Rattle.judge.proofs.Verdicts.{certificate, cycle_verdict, cyclic}
use Rattle.judge.proofs.alone.judge_alone.Goals as goal

pub least_certificate-requires : goal.least_certificate-requires
least_certificate-requires c =
    let x = c.args.recording.now in
    cyclic x c.in-Err.relation (subst (λ (r : Result Verdict Table). IfErr r (IsCyclicTable x)) c.in-Err.is
    c.in_ok-verdict.ensures.cyclic) _ c.in_ok-relation-in-Err.ensures.ok

pub returns-in_ok-least_certificate-in-Err-clause-verdict : goal.returns-in_ok-least_certificate-in-Err-clause-verdict
returns-in_ok-least_certificate-in-Err-clause-verdict c =
    let x = c.args.recording.now in
    let t = c.in-Err.relation in
    cycle_verdict x t (subst (λ (r : Result Verdict Table). IfErr r (IsCyclicTable x)) c.in-Err.is
    c.in_ok-verdict.ensures.cyclic) (c.relation_is_forced.ensures.least_cycles t x)
    (c.relation_is_forced.ensures.rows t x) (c.forced_is_exact.ensures.respects x)
    (c.ordered_is_acyclic.ensures.forced x) c.sound.ensures.well_formed _ c.in_ok-relation-in-Err.ensures.ok
    c.in_ok-least_certificate-in-Err.field-0 c.in_ok-least_certificate-in-Err.ensures

pub returns-in_ok-least_certificate-in-Err-clause-verified : goal.returns-in_ok-least_certificate-in-Err-clause-verified
returns-in_ok-least_certificate-in-Err-clause-verified c =
    let x = c.args.recording.now in
    let t = c.in-Err.relation in
    certificate x t (subst (λ (r : Result Verdict Table). IfErr r (IsCyclicTable x)) c.in-Err.is
    c.in_ok-verdict.ensures.cyclic) (c.relation_is_forced.ensures.certificates t x) _
    c.in_ok-relation-in-Err.ensures.ok c.in_ok-least_certificate-in-Err.field-0 c.in_ok-least_certificate-in-Err.ensures

use Rattle.std.proofs.Common.{◌≡◌, ◌++◌, List, ℕ, arith, refl, rules, subst, sym}
use Rattle.ledger.specs.declared.finding.Finding.{Finding}
use Rattle.surveys.specs.declared.kind.LineKind.{LineKind}
use Rattle.surveys.specs.Found.{AreLineFindings}
use Rattle.surveys.specs.Lines.{IsWhole}
use Rattle.surveys.proofs.Batches.{whole_all}
use Rattle.surveys.proofs.LineFindings.{both_found}
use Rattle.surveys.proofs.batch.both_judged.Goals as goal

pub returns : goal.returns
returns c =
    let front : List ℕ = c.args.front.now in
    let back : List ℕ = c.args.back.now in
    let kind : LineKind = c.in_ok-kind.field-0.kind in
    let of : LineKind = c.in_ok-of.field-0.kind in
    let xs : List Finding = c.in_ok-kind.field-0.findings.items in
    let ys : List Finding = c.in_ok-of.field-0.findings.items in
    let whole : IsWhole front =
    whole_all c.last_end.result front front refl (omega (arith, c.if-last_end-front.false)) c.last_end.ensures.whole in
    let one : AreLineFindings kind front xs = rw c.in_ok-kind.was at c.requires.0 in
    let other : AreLineFindings of back ys = rw c.in_ok-of.was at c.requires.1 in
    let same : of ≡ kind = search rules in
    let items : c.extend_from_slice.new.self.items ≡ xs ++ ys = search rules in
    subst (λ (fs : List Finding). AreLineFindings kind (front ++ back) fs) (sym items)
    (both_found kind front back xs ys whole one (subst (λ (k : LineKind). AreLineFindings k back ys) same other))

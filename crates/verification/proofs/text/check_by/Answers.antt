use Rattle.std.proofs.Common.{◌≡◌, ◌∙◌, sym}
use Rattle.std.specs.Prelude.{◌↔◌, IfOk}
use Rattle.std.proofs.lemmas.Bool.{false≢true}
use Rattle.verification.specs.declared.text_check.TextCheck.{TextCheck}
use Rattle.verification.specs.declared.text_check.TextCheck.TheVariants.{Holds}
use Rattle.verification.specs.Proof.{IsProof}
use Rattle.verification.proofs.Judged.{fault_decides, judged_holds}
use Rattle.verification.proofs.text.check_by.Goals as goal

pub returns : goal.returns
returns g c =
    let x = c.args.recording.now in
    let text = c.args.text.now in
    let r = c.fault.result in
    let exact : IfOk r (λ (f : TextCheck). (f ≡ Holds) ↔ IsProof x text) = fault_decides (IsProof x text)
    (λ proof. false≢true (sym c.if-is_proof.false ∙ c.in_ok-is_proof.ensures.1 proof)) r c.fault.ensures.fails in
    record {
      exact = exact;
      judged = judged_holds x text c.sound.ensures c.requires.few c.every_verdict_holds.ensures r exact;
      line = c.fault.ensures.line;
    }

use Rattle.std.proofs.Common.{◌≡◌, ◌∙◌, sym}
use Rattle.std.specs.Prelude.{◌↔◌, IfOk}
use Rattle.std.proofs.lemmas.Bool.{false≢true}
use Rattle.verification.specs.declared.text_check.TextCheck.{TextCheck}
use Rattle.verification.specs.declared.text_check.TextCheck.TheVariants.{Holds}
use Rattle.verification.specs.Proof.{IsLongProof}
use Rattle.verification.proofs.Judged.{answer_check_holds, fault_decides}
use Rattle.verification.proofs.unlabelled.check_long_text.Goals as goal

pub returns : goal.returns
returns c =
    let x = c.args.recording.now in
    let text = c.args.text.now in
    let r = c.long_fault.result in
    let exact : IfOk r (λ (f : TextCheck). (f ≡ Holds) ↔ IsLongProof x text) = fault_decides (IsLongProof x text)
    (λ proof. false≢true (sym c.if-is_proof.false ∙ c.in_ok-is_proof.ensures.1 proof)) r c.long_fault.ensures.fails in
    record {
      exact = exact;
      judged = answer_check_holds x text c.every_answer_holds.ensures r exact;
      line = c.long_fault.ensures.line;
    }

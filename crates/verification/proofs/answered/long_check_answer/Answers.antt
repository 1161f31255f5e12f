use Rattle.verification.specs.Proof.{IsLongProof}
use Rattle.verification.proofs.Findings.{says_proof}
use Rattle.verification.proofs.answered.long_check_answer.Goals as goal

pub returns : goal.returns
returns c = record {
  proof = says_proof (IsLongProof c.args.recording.now c.args.text.now) c.in_ok-check.check
      c.in_ok-text_check_answer.field-0 c.in_ok-check.ensures.exact c.in_ok-text_check_answer.ensures;
  line = (c.in_ok-check.check, c.in_ok-check.ensures.line, c.in_ok-text_check_answer.ensures);
}

use Rattle.verification.specs.Proof.{IsProof}
use Rattle.verification.proofs.Findings.{says_proof}
use Rattle.verification.proofs.answered.check_answer_alone.Goals as goal

pub returns : goal.returns
returns c = record {
  proof = says_proof (IsProof c.args.recording.now c.args.text.now) c.in_ok-check.check
      c.in_ok-text_check_answer.field-0 c.in_ok-check.ensures.exact c.in_ok-text_check_answer.ensures;
  line = (c.in_ok-check.check, c.in_ok-check.ensures.line, c.in_ok-text_check_answer.ensures);
}

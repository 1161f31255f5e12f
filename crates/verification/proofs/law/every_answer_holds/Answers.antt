use Rattle.verification.proofs.Judged.{answer_is_proof}
use Rattle.verification.proofs.law.every_answer_holds.Goals as goal

pub returns : goal.returns
returns c = answer_is_proof

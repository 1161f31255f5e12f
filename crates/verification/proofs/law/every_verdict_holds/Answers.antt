use Rattle.verification.proofs.Judged.{judged_is_proof}
use Rattle.verification.proofs.law.every_verdict_holds.Goals as goal

pub returns : goal.returns
returns c = judged_is_proof

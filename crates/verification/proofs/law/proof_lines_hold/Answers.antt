use Rattle.verification.proofs.ProofLines.{lines_hold}
use Rattle.verification.proofs.law.proof_lines_hold.Goals as goal

pub returns : goal.returns
returns c = lines_hold

use Rattle.verification.proofs.ProofLines.{one_fault}
use Rattle.verification.proofs.law.fault_is_one.Goals as goal

pub returns : goal.returns
returns c = one_fault

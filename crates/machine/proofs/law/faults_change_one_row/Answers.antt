use Rattle.machine.proofs.OneRow.{one_row}
use Rattle.machine.proofs.law.faults_change_one_row.Goals as goal

pub returns : goal.returns
returns c = one_row

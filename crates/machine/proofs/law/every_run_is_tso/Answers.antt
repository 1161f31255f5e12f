use Rattle.machine.proofs.Complete.{every_run_is_tso}
use Rattle.machine.proofs.Data.{every_run_is_well_formed}
use Rattle.machine.proofs.law.every_run_is_tso.Goals as goal

pub returns-clause-tso : goal.returns-clause-tso
returns-clause-tso c = every_run_is_tso

pub returns-clause-well_formed : goal.returns-clause-well_formed
returns-clause-well_formed c = every_run_is_well_formed

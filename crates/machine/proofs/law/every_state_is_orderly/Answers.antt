use Rattle.machine.proofs.Fitting.{every_state_is_orderly}
use Rattle.machine.proofs.law.every_state_is_orderly.Goals as goal

pub returns : goal.returns
returns c = every_state_is_orderly

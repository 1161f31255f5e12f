use Rattle.outcomes.proofs.Explained.{explained}
use Rattle.outcomes.proofs.observed.explains.Goals as goal

pub returns-clause-allowed : goal.returns-clause-allowed
returns-clause-allowed c = explained c.args.outcomes.now c.args.seen.now

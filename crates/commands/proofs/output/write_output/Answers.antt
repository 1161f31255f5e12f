use Rattle.commands.proofs.Given.{flushed}
use Rattle.commands.proofs.output.write_output.Goals as goal

pub returns-in-Ok-clause-written : goal.returns-in-Ok-clause-written
returns-in-Ok-clause-written g c = flushed c.args.output.now _ _ _ c.flush.result
    (rw c.deref.ensures.value at c.in-Ok.ensures.ok) c.flush.ensures.kept c.flush.ensures.outcome

pub returns-in-Err-clause-written : goal.returns-in-Err-clause-written
returns-in-Err-clause-written g c failed = rw c.deref.ensures.value at c.in-Err.ensures.err

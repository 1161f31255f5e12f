use Rattle.live.proofs.driving.drive_threads.Goals as goal

pub returns-clause-ok : goal.returns-clause-ok
returns-clause-ok g c = c.is_run_of.ensures.0 c.if-not-is_run_of.false

use Rattle.search.specs.WorkerJobs.{AreRowsFor}
use Rattle.search.proofs.WorkerRows.{rows_for, perhaps_pushed}
use Rattle.search.proofs.work.fn.run_workers.scope.Goals as goal

pub returns : goal.returns
returns g c =
    let b = c.captures.best.now in
    let t = c.captures.relation.now in
    c.join_all.ensures b t c.start_all-started.ensures
    (perhaps_pushed (AreRowsFor b t) _ c.captures.rows_of_workers.items c.push-kept.new.self.items
    c.work-worker_rows.result c.push-kept.ensures.items c.requires.rows_of_workers
    (rows_for b t c.captures.mine c.work-worker_rows.result c.requires.mine c.work-worker_rows.ensures))

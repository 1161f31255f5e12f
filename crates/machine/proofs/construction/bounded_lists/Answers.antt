use Rattle.std.proofs.lemmas.List.{replicate_more}
use Rattle.std.proofs.lemmas.Result.{IfOk-from_err}
use Rattle.machine.proofs.construction.bounded_lists.Goals as goal

pub returns-in_err-lists : goal.returns-in_err-lists
returns-in_err-lists g c = IfOk-from_err c.from_residual.result _ c.from_residual.ensures.0

pub loop-preserved : goal.loop-preserved
loop-preserved g c =
    rw (c.in_ok-push.ensures.items, c.in_ok-new.ensures, c.loop.invariant) (replicate_more c.loop.counter _)

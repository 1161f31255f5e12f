use Rattle.situations.proofs.Ranges.{range_between}
use Rattle.situations.proofs.waiting.between.Goals as goal

pub returns : goal.returns
returns g c = range_between c.args.steps.now c.args.from c.args.to c.min-end.result c.min-begin.result c.min-end.ensures
    c.min-begin.ensures

use Rattle.surveys.proofs.Long.{known_err}
use Rattle.surveys.proofs.showing.line_of.Goals as goal

pub returns-clause-long_known : goal.returns-clause-long_known
returns-clause-long_known g c = known_err _ (g.R.Source.left c.args.source.now) (g.R.Source.left c.line_from.new.source)
    c.line_from.ensures.long

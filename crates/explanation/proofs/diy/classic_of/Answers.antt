use Rattle.explanation.specs.Diy.{classic_of, classics}
use Rattle.explanation.proofs.diy.classic_of.Goals as goal

pub returns : goal.returns
unfolding classic_of classics
returns c = c.named_by.ensures

use Rattle.surveys.proofs.OneLine.{split_at, split_none}
use Rattle.surveys.proofs.lines.split_line.Goals as goal

pub returns-in-Some : goal.returns-in-Some
returns-in-Some c = split_at c.args.bytes.now c.in-Some.end c.in-Some.ensures

pub returns-in-None : goal.returns-in-None
returns-in-None c = split_none c.args.bytes.now c.in-None.ensures c.requires

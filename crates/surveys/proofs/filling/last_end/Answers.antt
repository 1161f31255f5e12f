use Rattle.std.proofs.Common.{arith}
use Rattle.surveys.proofs.Tallied.{whole_front}
use Rattle.surveys.proofs.filling.last_end.Goals as goal

pub returns-in-Some-clause-whole : goal.returns-in-Some-clause-whole
returns-in-Some-clause-whole c =
    whole_front c.args.block.now c.min-from.result c.in-Some.end (omega (arith, c.min-from.ensures))
    c.in-Some.ensures

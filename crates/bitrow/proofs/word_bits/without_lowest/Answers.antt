use Rattle.std.proofs.Common.{◌-◌, arith}
use Rattle.std.proofs.lemmas.Nat.{and_le_r}
use Rattle.bitrow.proofs.Lowest.{and_one_less}
use Rattle.bitrow.proofs.word_bits.without_lowest.Goals as goal

pub returns-clause-less : goal.returns-clause-less
returns-clause-less c = omega (arith, c.requires, and_le_r c.args.word (c.args.word - 1))

pub returns-clause-bits : goal.returns-clause-bits
returns-clause-bits c i one low = and_one_less c.args.word i one low

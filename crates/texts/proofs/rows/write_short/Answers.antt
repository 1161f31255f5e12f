use Rattle.std.proofs.Common.{arith}
use Rattle.texts.proofs.ShortNumbers.{one_digit, two_digits, three_digits}
use Rattle.texts.proofs.rows.write_short.Goals as goal

pub returns-then-number-lt10-clause-text : goal.returns-then-number-lt10-clause-text
returns-then-number-lt10-clause-text c =
    one_digit c.args.places.now c.args.at c.args.number (omega (arith, c.requires.room))
    (omega (arith, c.if-number-lt10.true))

pub returns-then-number-lt100-clause-text : goal.returns-then-number-lt100-clause-text
returns-then-number-lt100-clause-text c =
    two_digits c.args.places.now c.args.at c.args.number (omega (arith, c.requires.room))
    (omega (arith, c.if-number-lt10.false)) (omega (arith, c.if-number-lt100.true))

pub returns-clause-text : goal.returns-clause-text
returns-clause-text c =
    three_digits c.args.places.now c.args.at c.args.number (omega (arith, c.requires.room))
    (omega (arith, c.if-number-lt100.false)) (omega (arith, c.requires.short))

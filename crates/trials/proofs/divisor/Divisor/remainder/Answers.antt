use Rattle.std.proofs.Common.{◌*◌, ◌%◌, ◌/◌, ◌^◌, arith}
use Rattle.trials.proofs.Remainders.{rest_is, next_is, times_within}
use Rattle.trials.proofs.divisor.Divisor.remainder.Goals as goal

pub overflow_sub-rest : goal.overflow_sub-rest
overflow_sub-rest c = times_within c.args.word c.args.self.share c.args.self.number c.requires.share

pub returns-then-rest-self : goal.returns-then-rest-self
returns-then-rest-self c =
    rest_is c.args.word c.args.self.number (c.args.word * c.args.self.share % 2 ^ 128 / 2 ^ 64) _
    (omega (arith, times_within c.args.word c.args.self.share c.args.self.number c.requires.share))
    c.if-rest-self.true

pub returns-then-rest-self-2 : goal.returns-then-rest-self-2
returns-then-rest-self-2 c =
    next_is c.args.word c.args.self.number (c.args.word * c.args.self.share % 2 ^ 128 / 2 ^ 64) _
    (omega (arith, times_within c.args.word c.args.self.share c.args.self.number c.requires.share))
    c.if-rest-self.false c.if-rest-self-2.true

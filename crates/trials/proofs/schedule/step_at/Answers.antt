use Rattle.std.proofs.Common.{arith}
use Rattle.trials.proofs.Lines.{few_lines, some_address}
use Rattle.trials.proofs.schedule.step_at.Goals as goal

pub transaction_at-requires-clause-some : goal.transaction_at-requires-clause-some
transaction_at-requires-clause-some c = some_address c.args.cores c.args.addresses
    (omega (arith, c.requires.within))

pub transaction_at-requires-clause-few : goal.transaction_at-requires-clause-few
transaction_at-requires-clause-few c = few_lines c.args.cores c.args.addresses c.requires.few.0
    c.requires.few.1

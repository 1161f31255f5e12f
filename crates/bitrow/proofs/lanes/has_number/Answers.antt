use Rattle.std.proofs.Common.{sym, ◌∙◌}
use Rattle.bitrow.proofs.Members.{bits_bit}
use Rattle.bitrow.proofs.lanes.has_number.Goals as goal

pub returns : goal.returns
returns g c = c.test_bit.ensures ∙ sym (bits_bit c.args.lanes c.args.number)

use Rattle.std.proofs.Common.{◌∙◌}
use Rattle.bitrow.proofs.Members.{bits_bit, zeros}
use Rattle.bitrow.proofs.lanes.no_number.Goals as goal

pub returns : goal.returns
returns g c j = bits_bit _ j ∙ zeros g.row.N j

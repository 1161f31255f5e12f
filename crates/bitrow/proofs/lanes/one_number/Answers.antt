use Rattle.std.proofs.Common.{◌||◌, Bool, ap, ◌∙◌}
use Rattle.std.specs.Prelude.{◌==◌}
use Rattle.bitrow.proofs.Members.{bits_bit, zeros}
use Rattle.bitrow.proofs.lanes.one_number.Goals as goal

pub returns : goal.returns
returns g c j = bits_bit c.set_bit.new.words j ∙ (c.set_bit.ensures j
    ∙ ap (λ (b : Bool). b || (j == c.args.number)) (zeros g.row.N j))

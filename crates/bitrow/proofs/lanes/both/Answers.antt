use Rattle.std.proofs.Common.{◌||◌, Bool, sym, ap, ◌∙◌}
use Rattle.bitrow.specs.Bits.{bit_of, bits_of, is_in}
use Rattle.bitrow.proofs.Members.{bits_bit}
use Rattle.bitrow.proofs.InLanes.{lanes_or}
use Rattle.bitrow.proofs.lanes.both.Goals as goal

pub returns : goal.returns
returns g c j =
    bits_bit _ j ∙ (lanes_or c.args.lanes c.args.other g.row.N c.fits-lanes.0 c.fits-other.0 j
    ∙ (ap (λ (b : Bool). b || bit_of c.args.other j) (sym (bits_bit c.args.lanes j))
    ∙ ap (λ (b : Bool). is_in (bits_of c.args.lanes) j || b) (sym (bits_bit c.args.other j))))

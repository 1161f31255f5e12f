use Rattle.std.proofs.Common.{◌||◌, ℕ, List, arith, ap, ◌∙◌, take_all}
use Rattle.std.specs.Simd.Lanes.{chunk}
use Rattle.std.proofs.lemmas.Simd.{length-chunk}
use Rattle.bitrow.specs.Bits.{bit_of}
use Rattle.bitrow.proofs.InLanes.{lanes_or}
use Rattle.bitrow.proofs.lanes.or_lanes.Goals as goal

pub returns : goal.returns
returns g c j =
    let words = c.args.words.now in
    lanes_or c.args.lanes (chunk 0 g.row.N words) g.row.N c.fits-lanes.0
    (length-chunk 0 g.row.N words (omega (arith, c.requires))) j
    ∙ ap (λ (ws : List ℕ). bit_of c.args.lanes j || bit_of ws j) (take_all g.row.N words (omega (arith, c.requires)))

use Rattle.std.proofs.Common.{◌<◌, ◌^◌, ◌&&◌, inl, inr, not, ℕ, Bool, w64, arith, sym, ap, ◌∙◌}
use Rattle.std.proofs.lemmas.Bool.{cases_lt}
use Rattle.std.proofs.lemmas.List.{get_or_past}
use Rattle.std.proofs.lemmas.Simd.{Each1-get_or, below_from_Fits}
use Rattle.bitrow.specs.Bits.{bit_of, bits_of, is_in}
use Rattle.bitrow.proofs.Members.{bits_bit}
use Rattle.bitrow.proofs.InLanes.{lanes_without}
use Rattle.bitrow.proofs.lanes.without.Goals as goal

pub returns : goal.returns
returns g c j =
    let other = c.args.other in
    bits_bit _ j ∙ (lanes_without c.args.lanes other g.row.N c.fits-lanes.0 c.fits-other.0
    (λ m. elim (cases_lt m g.row.N) [
      | inl below ↦ Each1-get_or (λ (w : ℕ). w < 2 ^ 64) other m 0 (omega (arith, below, c.fits-other.0))
          (below_from_Fits w64 other c.fits-other.1)
      | inr past ↦ omega (arith, get_or_past other m 0 (omega (arith, past, c.fits-other.0)))
    ]) j
    ∙ (ap (λ (b : Bool). b && not (bit_of other j)) (sym (bits_bit c.args.lanes j))
    ∙ ap (λ (b : Bool). is_in (bits_of c.args.lanes) j && not b) (sym (bits_bit other j))))

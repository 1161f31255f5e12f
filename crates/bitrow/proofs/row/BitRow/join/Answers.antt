use Rattle.std.proofs.Common.{rules, ◌||◌, Bool, List, ℕ, length, sym, ap, subst, ◌∙◌}
use Rattle.bitrow.specs.Bits.{bit_of, is_in, bits_of, IsWidth}
use Rattle.bitrow.proofs.Members.{bits_bit, row_bit, row_length, same_width}
use Rattle.bitrow.proofs.row.BitRow.join.Goals as goal

pub or_lanes-requires : goal.or_lanes-requires
or_lanes-requires g c = (
  search rules,
  ap (λ (ws : List ℕ). length ws) c.as_slice.ensures
      ∙ same_width (length c.self.inside.words.items) g.row.N c.self.inside.len c.self.invariant.width
      (subst (λ (n : ℕ). IsWidth g.row.N n)
      (row_length c.self.inside.words.items c.self.inside.len c.args.self.now c.self.view_is) c.requires),
)

pub returns : goal.returns
returns g c j =
    bits_bit c.or_lanes.result j ∙ (c.or_lanes.ensures j
    ∙ (ap (λ (b : Bool). b || bit_of c.as_slice.result.now j) (sym (bits_bit c.args.lanes j))
    ∙ ap (λ (b : Bool). is_in (bits_of c.args.lanes) j || b)
    (ap (λ (ws : List ℕ). bit_of ws j) c.as_slice.ensures
    ∙ sym (row_bit c.self.inside.words.items c.self.inside.len c.args.self.now c.self.view_is c.self.invariant.clear
    j))))

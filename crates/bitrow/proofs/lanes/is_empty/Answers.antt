use Rattle.std.proofs.Common.{◌/◌, inl, inr, sym, ◌∙◌}
use Rattle.std.proofs.lemmas.Bool.{cases_eq, ne_eqb, true≢false}
use Rattle.bitrow.proofs.Bits.{none_in}
use Rattle.bitrow.proofs.Combining.{none_joined}
use Rattle.bitrow.proofs.Members.{bits_bit}
use Rattle.bitrow.proofs.lanes.is_empty.Goals as goal

pub returns : goal.returns
returns g c none j = bits_bit c.args.lanes j ∙ none_in c.args.lanes j ((none_joined c.args.lanes 0
    (elim (cases_eq _ 0) [ inl is ↦ is | inr other ↦ absurd (true≢false (sym none ∙ ne_eqb _ 0 other)) ])).1 (j / 64))

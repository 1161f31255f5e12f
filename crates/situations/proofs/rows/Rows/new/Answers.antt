use Rattle.std.proofs.Common.{refl, subst, sym}
use Rattle.situations.specs.Packed.{PackedLists}
use Rattle.situations.specs.Row.{AreOnce}
use Rattle.situations.proofs.SeenRows.{none_once}
use Rattle.situations.proofs.rows.Rows.new.Goals as goal

pub invariant_of-result : goal.invariant_of-result
invariant_of-result c =
    subst (λ (p : PackedLists). AreOnce c.args.cores c.args.addresses c.args.notes p.width p.lists)
    (sym c.in_ok-lists.ensures) (record { width_is = refl; once = none_once })

use Rattle.std.proofs.Common.{sym, ◌∙◌, ap, subst, arith}
use Rattle.relations.specs.Relation.{Table}
use Rattle.best.specs.Rule.{IsLength}
use Rattle.best.proofs.Keeps.{lowers}
use Rattle.best.proofs.seat.Best.lower_to_length.Goals as goal

pub fetch_min-requires : goal.fetch_min-requires
fetch_min-requires c =
    let h = c.args.seat.now in
    let t = c.deref.ensures in
    let size = ap (λ b. b.shared.table_id.words) t ∙ h.size in
    let key = ap (λ b. b.shared.key) t ∙ h.relation in (
      h.seated ∙ sym (ap (λ b. b.shared.table_id) t),
      omega (arith, size),
      lowers _ _ _ _ _ (subst (λ (z : Table). IsLength z c.args.size) (sym key) c.requires.size)
          (omega (arith, c.ranges.size.fits)),
    )

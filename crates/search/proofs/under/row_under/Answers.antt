use Rattle.std.proofs.Common.{◌<◌, ◌∙◌, ℕ, length, sym, subst}
use Rattle.relations.specs.Relation.{Table}
use Rattle.search.proofs.under.row_under.Goals as goal

pub row_for-requires-clause-source : goal.row_for-requires-clause-source
row_for-requires-clause-source c =
    subst (λ (t : Table). c.source.result < length t) (sym c.relation.ensures.value)
    (subst (λ (v : ℕ). v < length c.args.job.now.relation) (sym c.source.ensures) c.relation.ensures.source)

pub row_for-requires-clause-seat : goal.row_for-requires-clause-seat
row_for-requires-clause-seat c = (c.requires.0, c.requires.1 ∙ sym c.relation.ensures.value)

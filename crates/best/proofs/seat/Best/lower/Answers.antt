use Rattle.std.proofs.Common.{length, refl, subst}
use Rattle.relations.specs.Relation.{Table}
use Rattle.best.specs.Rule.{IsLength}
use Rattle.best.proofs.seat.Best.lower.Goals as goal

pub lower_to_length-requires-clause-size : goal.lower_to_length-requires-clause-size
lower_to_length-requires-clause-size c =
    subst (λ (z : Table). IsLength z (length c.args.cycle.now)) c.requires.relation
    (c.args.cycle.now, c.requires.cycle, refl, c.requires.short)

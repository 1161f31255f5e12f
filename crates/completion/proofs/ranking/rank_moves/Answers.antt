use Rattle.std.proofs.Common.{List, map, sym, subst}
use Rattle.std.specs.List.{Contains}
use Rattle.completion.specs.declared.ranking.Choice.{Choice}
use Rattle.completion.proofs.Vain.{taken_more}
use Rattle.completion.proofs.ranking.rank_moves.Goals as goal

pub returns : goal.returns
returns c move d low =
    taken_more c.args.values.now c.args.row.now (map (λ (x : Choice). x.turn) c.in_ok-found.found.items)
    c.in_ok-moves.moves.items move d
    (λ t there. c.in_ok-moves.ensures t
    (subst (λ (l : List Choice). Contains (map (λ (x : Choice). x.turn) l) t) (sym c.deref.ensures.value) there))
    (c.in_ok-found.ensures move d low)

use Rattle.std.proofs.Common.{sym, subst, ℕ, List, [], ◌∷◌, ◌++◌}
use Rattle.std.specs.Prelude.{Contains}
use Rattle.std.proofs.lemmas.List.Elements.{Contains-push}
use Rattle.trials.proofs.workers.try_one.Goals as goal

pub file-requires-clause-claimed : goal.file-requires-clause-claimed
file-requires-clause-claimed g c =
    let old = c.args.seat.now.seat.me.0 in
    let new = c.if-claim.ensures.new in
    let it = c.in-Ok.ensures.1 in
    subst (λ (xs : List ℕ). Contains xs c.in-Ok.filed.trial) (λ i. (sym new i).share)
    (subst (λ (n : ℕ). Contains (old.share ++ c.args.k ∷ []) n) (sym it) (Contains-push old.share c.args.k))

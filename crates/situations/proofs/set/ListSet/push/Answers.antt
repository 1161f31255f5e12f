use Rattle.std.proofs.Common.{◌≡◌, ◌∙◌, ◌++◌, ◌∷◌, [], ap}
use Rattle.situations.specs.Packed.{PackedLists}
use Rattle.situations.proofs.PackedLists.{on_ok}
use Rattle.situations.proofs.set.ListSet.push.Goals as goal
use Rattle.situations.proofs.set.ListSet.push.Goals.{then-len-2+in_ok-grow, else-len-2}

pub returns-clause-ok : goal.returns-clause-ok
returns-clause-ok c =
    let same : c.if-len-2.self ≡ c.args.self.now = elim c.if-len-2.branch [
      | then-len-2+in_ok-grow w ↦ w.self-is ∙ w.in_ok-grow.ensures
      | else-len-2 w ↦ w.self-is
    ] in
    let wide = ap (λ (p : PackedLists). p.width) same in
    let long = ap (λ (p : PackedLists). p.lists ++ c.args.list.now ∷ []) same in
    on_ok _ _ c.add.result (λ took. took ∙ (λ i. record { width = wide i; lists = long i })) c.add.ensures.ok

use Rattle.std.proofs.Common.{◌≡◌, ◌++◌, ◌∷◌, [], List, map, ◌∙◌, ap, sym, subst}
use Rattle.std.specs.List.{Contains}
use Rattle.std.proofs.lemmas.List.{map-append}
use Rattle.std.proofs.lemmas.List.Elements.{Contains-append_left}
use Rattle.completion.specs.declared.moves.Turn.{Turn}
use Rattle.completion.specs.declared.ranking.Choice.{Choice}
use Rattle.completion.proofs.Vain.{taken_more}
use Rattle.completion.proofs.ranking.add.Goals as goal

pub returns-clause-more : goal.returns-clause-more
returns-clause-more c t =
    let old : List Choice = c.args.found.now.items in
    let choice : Choice = record { turn = c.args.turn; rank = c.if-not-is_plain.rank } in
    let same : map (λ (x : Choice). x.turn) c.push.new.self.items ≡ map (λ (x : Choice). x.turn) old ++ c.args.turn ∷ [] =
    ap (map (λ (x : Choice). x.turn)) c.in_ok-push.ensures.items ∙ map-append (λ (x : Choice). x.turn) old (choice ∷ []) in
    taken_more c.args.values.now c.args.row.now (map (λ (x : Choice). x.turn) old)
    (map (λ (x : Choice). x.turn) c.push.new.self.items) t.step t.core
    (λ u there. subst (λ (l : List Turn). Contains l u) (sym same)
    (Contains-append_left (map (λ (x : Choice). x.turn) old) (c.args.turn ∷ []) u there))

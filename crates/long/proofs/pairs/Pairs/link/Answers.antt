use Rattle.std.proofs.Common.{◌≡◌, ◌≤◌, ◌-◌, ◌∷◌, ℕ, get_or, length, arith, sym, subst, ap, ◌∙◌}
use Rattle.std.proofs.lemmas.List.{get_or_read}
use Rattle.long.specs.Chains.{Chains, rest_from}
use Rattle.long.proofs.Chained.{rest_next}
use Rattle.long.proofs.pairs.Pairs.link.Goals as goal

pub returns-clause-rest : goal.returns-clause-rest
returns-clause-rest c =
    let p : Chains = record { heads = c.self.inside.heads.items; links = c.self.inside.links.items } in
    let low : c.args.head ≤ length p.links =
    subst (λ (q : Chains). c.args.head ≤ length q.links) (sym c.self.view_is) c.requires.low in
    let read : c.index.result.now ≡ get_or p.links (c.args.head - 1) (0, 0) =
    get_or_read p.links (c.args.head - 1) c.index.result.now (omega (arith, low, c.requires.some)) c.index.ensures
    (0, 0) in
    subst (λ (q : Chains). rest_from q c.args.head ≡ c.index.result.now.0 ∷ rest_from q c.index.result.now.1)
    c.self.view_is
    (rest_next p c.self.invariant c.args.head c.requires.some low
    ∙ ap (λ (l : ℕ × ℕ). l.0 ∷ rest_from p l.1) (sym read))

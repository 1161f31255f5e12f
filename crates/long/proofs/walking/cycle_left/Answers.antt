use Rattle.std.proofs.Common.{◌<◌, ◌-◌, ℕ, List, get_or, sym, subst}
use Rattle.long.specs.Walks.{IsClosedStack, IsWalk}
use Rattle.long.proofs.Back.{walk_closes}
use Rattle.long.proofs.Lists.{if_ok}
use Rattle.long.proofs.walking.cycle_left.Goals as goal

pub returns : goal.returns
returns c =
    let befores : List ℕ = c.in_ok-befores.befores.items in
    let stack : List ℕ = c.in_ok-stack.stack.items in
    let first = c.in_ok-stack.first in
    let walk : IsWalk befores stack first =
    subst (λ (b : List ℕ). IsWalk b stack first) c.deref-2.ensures.value c.in_ok-stack.ensures in
    if_ok c.cycle_of.result
    (λ cycle closes x forced. closes x
    (subst (λ (s : List ℕ). IsClosedStack x s first) (sym c.deref-3.ensures.value)
    (walk_closes x c.args.pairs.now c.args.counts.now befores stack first forced c.in_ok-befores.ensures walk)))
    c.cycle_of.ensures

pub walk-requires-clause-back : goal.walk-requires-clause-back
walk-requires-clause-back c =
    let are = c.in_ok-befores.ensures in
    subst (λ (b : List ℕ). (e : ℕ) → 0 < get_or b e 0 → 0 < get_or b (get_or b e 0 - 1) 0)
    (sym c.deref-2.ensures.value)
    (λ e some. are.some (get_or c.in_ok-befores.befores.items e 0 - 1) (are.before e some).0)

use Rattle.std.proofs.Common.{◌≡◌, ℕ, List, ap, true, false, arith, length, sym, subst}
use Rattle.completion.specs.Reachable.{here}
use Rattle.completion.specs.Search.{IsHopeless}
use Rattle.completion.specs.Situation.{beginning, IsEnd}
use Rattle.completion.proofs.DeadRows.{beginning_hopeless}
use Rattle.completion.proofs.Vain.{no_keys, none_known, none_searched, one_too_many}
use Rattle.completion.proofs.search.search.Goals as goal

pub returns-then-is_hopeless : goal.returns-then-is_hopeless
returns-then-is_hopeless c =
    beginning_hopeless c.args.values.now (c.every_completion_is_reached.ensures c.args.values.now _)
    (subst (IsHopeless c.args.values.now.cores) c.in_ok-first.ensures (c.is_hopeless.ensures c.if-is_hopeless.true))
    (λ end. let yes : c.is_end.result ≡ true =
    c.is_end.ensures.1 (subst (IsEnd c.args.values.now) (sym c.in_ok-first.ensures) end) in
    let no : c.is_end.result ≡ false = c.if-is_end.false in absurd cc)

pub returns-then-limit-eq0 : goal.returns-then-limit-eq0
returns-then-limit-eq0 c =
    let v = c.args.values.now in
    one_too_many v c.in_ok-seen.seen (beginning v)
    (none_searched v c.in_ok-seen.seen _ _ c.core_count.ensures
    (ap (λ (l : List ℕ). length l) c.init.ensures) c.in_ok-seen.ensures.rows c.in_ok-seen.ensures.dead)
    here
    (none_known v c.in_ok-seen.seen _ _ c.core_count.ensures
    (ap (λ (l : List ℕ). length l) c.init.ensures) c.in_ok-seen.ensures.rows c.in_ok-seen.ensures.dead
    (beginning v)) c.args.limit
    (let none : c.args.limit ≡ 0 = c.if-limit-eq0.true in omega (arith, none))

pub search_from-requires-clause-before_end : goal.search_from-requires-clause-before_end
search_from-requires-clause-before_end c = λ end.
    let yes : c.is_end.result ≡ true = c.is_end.ensures.1 end in
    let no : c.is_end.result ≡ false = c.if-is_end.false in absurd cc

pub search_from-requires-clause-searched : goal.search_from-requires-clause-searched
search_from-requires-clause-searched c =
    none_searched c.args.values.now c.in_ok-seen.seen _ _ c.core_count.ensures
    (ap (λ (l : List ℕ). length l) c.init.ensures) c.in_ok-seen.ensures.rows c.in_ok-seen.ensures.dead

pub search_from-requires-clause-none : goal.search_from-requires-clause-none
search_from-requires-clause-none c =
    no_keys c.args.values.now c.in_ok-seen.seen _ _ c.core_count.ensures
    (ap (λ (l : List ℕ). length l) c.init.ensures) c.in_ok-seen.ensures.rows c.in_ok-seen.ensures.dead

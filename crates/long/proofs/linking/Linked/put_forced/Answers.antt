use Rattle.std.proofs.Common.{◌<◌, ℕ, List, sym, subst}
use Rattle.relations.specs.Forced.{Forced}
use Rattle.long.specs.Chains.{times_listed}
use Rattle.long.proofs.Listed.{put_each, put_keeps, put_stands}
use Rattle.long.proofs.linking.Linked.put_forced.Goals as goal

pub returns-clause-linked : goal.returns-clause-linked
returns-clause-linked c =
    let x = c.args._recording.now in
    subst (λ (l : List (ℕ × ℕ)). (d e : ℕ) → 0 < times_listed l d e → Forced x d e) (sym c.in_ok-push.ensures.items)
    (put_each (Forced x) c.args.self.now.list.items c.args.first c.args.second c.requires.linked c.requires.forced)

pub returns-clause-kept : goal.returns-clause-kept
returns-clause-kept c = λ d e some.
    subst (λ (l : List (ℕ × ℕ)). 0 < times_listed l d e) (sym c.in_ok-push.ensures.items)
    (put_keeps c.args.self.now.list.items (c.args.first, c.args.second) d e some)

pub returns-clause-here : goal.returns-clause-here
returns-clause-here c =
    subst (λ (l : List (ℕ × ℕ)). 0 < times_listed l c.args.first c.args.second) (sym c.in_ok-push.ensures.items)
    (put_stands c.args.self.now.list.items c.args.first c.args.second)

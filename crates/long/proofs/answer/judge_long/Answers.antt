use Rattle.std.proofs.Common.{ℕ, List, sym, subst}
use Rattle.recording.specs.Execution.{Execution}
use Rattle.relations.specs.Cycle.{IsCycle}
use Rattle.relations.specs.Forced.{Forced}
use Rattle.long.specs.Walks.{IsBlocked}
use Rattle.long.proofs.answer.judge_long.Goals as goal

pub cycle_left-requires-clause-blocked : goal.cycle_left-requires-clause-blocked
cycle_left-requires-clause-blocked c =
    let found = rw c.in-Cyclic.is at c.in_ok-order.ensures in
    subst (λ (l : List ℕ). IsBlocked c.in-Cyclic.left.pairs l) (sym c.counts.ensures) found.0.blocked

pub cut-requires : goal.cut-requires
cut-requires c =
    let found = rw c.in-Cyclic.is at c.in_ok-order.ensures in
    subst (λ (y : Execution). IsCycle (Forced y) c.deref.result.now) (sym c.in_ok-places-in-Cyclic.ensures)
    (subst (λ (l : List ℕ). IsCycle (Forced c.args.recording.now) l) (sym c.deref.ensures.value)
    (c.in_ok-cycle-in-Cyclic.ensures c.args.recording.now found.0.forced))

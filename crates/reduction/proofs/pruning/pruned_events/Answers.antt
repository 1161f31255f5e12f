use Rattle.std.proofs.Common.{◌≡◌, ◌+◌, ◌++◌, ◌∷◌, ◌∙◌, [], ℕ, suc, List, arith, ap, sym, take}
use Rattle.recording.specs.declared.event.Event.{Event}
use Rattle.reduction.specs.Pruned.{pruned_events}
use Rattle.reduction.proofs.Pruned.{one_event_more}
use Rattle.reduction.proofs.pruning.pruned_events.Goals as goal

pub loop-i-preserved : goal.loop-i-preserved
loop-i-preserved c =
    let events = c.args.events.now in
    let readers = c.args.readers.now in
    let first = c.args.first in
    let i = c.loop-i.i in
    let one : suc i ≡ i + 1 = omega arith in
    c.in_ok-push.ensures.items
    ∙ (ap (λ (l : List Event). l ++ c.pruned_event.result ∷ []) c.loop-i.invariant
    ∙ (ap (λ (e : Event). pruned_events readers first (take i events) ++ e ∷ []) c.pruned_event.ensures
    ∙ (sym (one_event_more readers first i events _ c.loop-i-test.true)
    ∙ ap (λ (k : ℕ). pruned_events readers first (take k events)) one)))

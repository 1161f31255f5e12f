use Rattle.std.proofs.Common.{◌≡◌, ◌<◌, ℕ, List, subst, sym}
use Rattle.recording.specs.Execution.{event_count}
use Rattle.recording.specs.Order.{times}
use Rattle.reduction.specs.Needed.{AreNeeded}
use Rattle.reduction.specs.Pruned.{pruned}
use Rattle.reduction.specs.Restriction.{restriction}
use Rattle.reduction.proofs.LongReductions.{overlook_answer_events, cycle_answer_events, overlook_part, cycle_part}
use Rattle.reduction.proofs.reducing.reduce_long.Goals as goal

pub cut_to-requires : goal.cut_to-requires
cut_to-requires c = overlook_answer_events c.args.recording.now c.args.answer.now c.in-Overlook.load
    c.in-Overlook.store c.in-Overlook.is c.requires

pub cut_to-requires-in-Cycle : goal.cut_to-requires-in-Cycle
cut_to-requires-in-Cycle c =
    subst (λ (l : List ℕ). (e : ℕ) → 0 < times l e → e < event_count c.args.recording.now) (sym c.deref.ensures.value)
    (cycle_answer_events c.args.recording.now c.sound.ensures.well_formed c.args.answer.now c.in-Cycle.cycle
    c.in-Cycle.is c.requires)

pub returns-in_ok-cut_to-in-Overlook-clause-reduction : goal.returns-in_ok-cut_to-in-Overlook-clause-reduction
returns-in_ok-cut_to-in-Overlook-clause-reduction c =
    overlook_part c.args.recording.now c.sound.ensures.well_formed c.args.answer.now c.in-Overlook.load
    c.in-Overlook.store c.in-Overlook.is c.requires c.in_ok-cut_to-in-Overlook.field-0.events.items
    c.in_ok-cut_to-in-Overlook.field-0.recording c.in_ok-cut_to-in-Overlook.ensures.needed
    c.in_ok-cut_to-in-Overlook.ensures.restricted

pub returns-in_ok-cut_to-in-Cycle-clause-reduction : goal.returns-in_ok-cut_to-in-Cycle-clause-reduction
returns-in_ok-cut_to-in-Cycle-clause-reduction c =
    let x = c.args.recording.now in
    let ks : List ℕ = c.in_ok-cut_to-in-Cycle.field-0.events.items in
    cycle_part x c.sound.ensures.well_formed c.args.answer.now c.in-Cycle.cycle c.in-Cycle.is c.requires ks
    c.in_ok-cut_to-in-Cycle.field-0.recording
    (subst (λ (l : List ℕ). AreNeeded (pruned x l) l ks) c.deref.ensures.value c.in_ok-cut_to-in-Cycle.ensures.needed)
    (subst (λ (l : List ℕ). c.in_ok-cut_to-in-Cycle.field-0.recording ≡ restriction (pruned x l) ks)
    c.deref.ensures.value c.in_ok-cut_to-in-Cycle.ensures.restricted)

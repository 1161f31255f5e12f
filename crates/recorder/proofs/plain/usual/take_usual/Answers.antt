use Rattle.std.proofs.Common.{List, refl, subst, ℕ}
use Rattle.recorder.specs.Usual.{WritesEvent}
use Rattle.recorder.proofs.Somes.{if_some}
use Rattle.recorder.proofs.UsualEvents.{address_key, event_writes}
use Rattle.recorder.proofs.plain.usual.take_usual.Goals as goal

pub returns-then-not-take : goal.returns-then-not-take
returns-then-not-take g c = if_some c.take_fence.result c.take_fence.ensures (λ e fence.
    subst (λ (t : List ℕ). WritesEvent t e c.take_fence.new.rest) (c.if-not-take.ensures.kept refl) fence)

pub returns : goal.returns
returns g c =
    event_writes c.args.rest.now c.skip_gap.new.rest c.take_word.new.rest c.take-2.new.self c.in_ok-a.a
    c.in_ok-event.event (address_key c.args.rest.now c.take.new.self c.skip_gap.new.rest
    (c.if-not-take.ensures.found refl) c.skip_gap.ensures) c.in_ok-a.ensures
    (c.in_ok-event.ensures c.take-2.new.self (c.if-not-take-2.ensures.found refl))

use Rattle.std.proofs.Common.{◌≡◌, ◌<◌, ◌∙◌, ℕ, sym, subst}
use Rattle.std.proofs.lemmas.Result.{on_ok_weaker}
use Rattle.long.specs.Chains.{times_listed}
use Rattle.long.proofs.Steps.{next_write_forced, next_write_found, next_write_other, next_write_said, no_next_write}
use Rattle.long.proofs.linking.Linked.put_next.Goals as goal

pub returns-in_default-clause-here : goal.returns-in_default-clause-here
returns-in_default-clause-here c w h =
    absurd (no_next_write c.args.recording.now c.args.event.now w c.requires.event c.in_default.is h)

pub returns-then-event-clause-here : goal.returns-then-event-clause-here
returns-then-event-clause-here c w h =
    let x = c.args.recording.now in
    let p = c.args.event.now in
    absurd (next_write_other x w p.number h
    (next_write_said x p c.in-Some.field-0 w c.requires.event c.in-Some.is h ∙ c.if-event.true))

pub put_forced-requires-clause-forced : goal.put_forced-requires-clause-forced
put_forced-requires-clause-forced c =
    let x = c.args.recording.now in
    let p = c.args.event.now in
    next_write_forced x c.requires.event.well_formed p.number p.next
    (next_write_found x p c.in-Some.field-0 c.requires.event c.in-Some.is c.if-event.false)

pub returns-clause-here : goal.returns-clause-here
returns-clause-here c =
    let x = c.args.recording.now in
    let p = c.args.event.now in
    let new = c.put_forced.new.self in
    on_ok_weaker c.put_forced.result
    (λ put w h.
    let only : w ≡ p.next = next_write_said x p c.in-Some.field-0 w c.requires.event c.in-Some.is h in
    subst (λ (k : ℕ). 0 < times_listed new.list.items p.number k) (sym only) put)
    c.put_forced.ensures.here

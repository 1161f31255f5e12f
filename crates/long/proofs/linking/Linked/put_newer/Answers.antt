use Rattle.std.proofs.Common.{◌≡◌, ◌<◌, ◌∙◌, ℕ, sym, subst}
use Rattle.std.proofs.lemmas.Bool.{iff_false}
use Rattle.std.proofs.lemmas.Result.{on_ok_weaker}
use Rattle.recording.specs.Execution.{ProgramOrder}
use Rattle.long.specs.Chains.{times_listed}
use Rattle.long.proofs.Steps.{newer_forced, newer_found, newer_none, newer_said}
use Rattle.long.proofs.linking.Linked.put_newer.Goals as goal

pub returns-in_default-clause-here : goal.returns-in_default-clause-here
returns-in_default-clause-here c w h =
    absurd (newer_none c.args.recording.now c.args.event.now w c.requires.event c.in_default.is h.0)

pub returns-then-newer-event-clause-here : goal.returns-then-newer-event-clause-here
returns-then-newer-event-clause-here c w h =
    let x = c.args.recording.now in
    let p = c.args.event.now in
    absurd (h.1 (newer_said x p c.in-Some.field-0 w c.requires.event c.in-Some.is h.0 ∙ c.if-newer-event.true))

pub returns-then-is_earlier-clause-here : goal.returns-then-is_earlier-clause-here
returns-then-is_earlier-clause-here c w h =
    let x = c.args.recording.now in
    let p = c.args.event.now in
    let only : w ≡ p.first_newer = newer_said x p c.in-Some.field-0 w c.requires.event c.in-Some.is h.0 in
    absurd (h.2 (subst (λ (k : ℕ). ProgramOrder x k p.number) (sym only)
    ((c.is_earlier.ensures x c.requires.start).0 c.if-is_earlier.true)))

pub put_forced-requires-clause-forced : goal.put_forced-requires-clause-forced
put_forced-requires-clause-forced c =
    let x = c.args.recording.now in
    let p = c.args.event.now in
    newer_forced x c.requires.event.well_formed p.number p.first_newer
    (newer_found x p c.in-Some.field-0 c.requires.event c.in-Some.is c.if-newer-event.false)
    c.if-newer-event.false (iff_false (c.is_earlier.ensures x c.requires.start) c.if-is_earlier.false)

pub returns-clause-here : goal.returns-clause-here
returns-clause-here c =
    let x = c.args.recording.now in
    let p = c.args.event.now in
    let new = c.put_forced.new.self in
    on_ok_weaker c.put_forced.result
    (λ put w h.
    let only : w ≡ p.first_newer = newer_said x p c.in-Some.field-0 w c.requires.event c.in-Some.is h.0 in
    subst (λ (k : ℕ). 0 < times_listed new.list.items p.number k) (sym only) put)
    c.put_forced.ensures.here

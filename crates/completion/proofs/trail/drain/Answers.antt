use Rattle.std.proofs.Common.{◌≡◌, ◌+◌, ◌++◌, ◌∷◌, [], ◌∙◌, ℕ, List, Option, Some, None, slice_set, ap, sym, subst}
use Rattle.std.proofs.lemmas.Option.{same_Some}
use Rattle.recording.specs.declared.event.Event.{Event}
use Rattle.situations.specs.declared.waiting.Waiting.{Waiting}
use Rattle.completion.specs.Situation.{memory_of}
use Rattle.completion.specs.Performed.{IsTrail}
use Rattle.completion.specs.Situation.{beginning, drained_by, events_of, number_of}
use Rattle.situations.specs.Situation.{drained_of, place_of, waiting, with_drained}
use Rattle.situations.specs.Step.{stored_by_event}
use Rattle.situations.specs.Waiting.{between, oldest}
use Rattle.completion.specs.Situation.{written}
use Rattle.completion.proofs.Moved.{next_store}
use Rattle.completion.proofs.Rank.{beginning_fit, led_fit}
use Rattle.completion.proofs.Turned.{drained_right}
use Rattle.completion.proofs.trail.drain.Goals as goal

pub returns : goal.returns
returns c s is =
    let v = c.args.values.now in
    let row = c.args.row.now in
    let core : ℕ = c.args.core in
    let es : List Event = events_of v.cores core in
    let x : Waiting = c.in-Some.store in
    let waits : c.between-waiting.result.now ≡ waiting v.cores row core =
    c.between-waiting.ensures ∙ (ap (λ (l : List Event). between l c.drained_place-from.result c.place.result) c.events.ensures
    ∙ (ap (λ (n : ℕ). between es n c.place.result) c.drained_place-from.ensures.value
    ∙ ap (λ (n : ℕ). between es (drained_of row core) n) c.place.ensures.value)) in
    let found : oldest stored_by_event (drained_of row core) (waiting v.cores row core) ≡ Some x =
    sym (ap (λ (l : List Event). oldest stored_by_event (drained_of row core) l) waits)
    ∙ (sym (ap (λ (n : ℕ). oldest stored_by_event n c.between-waiting.result.now) c.drained_place-from.ensures.value)
    ∙ (sym c.oldest.ensures.value ∙ c.in-Some.is)) in
    let made : s ≡ written v (with_drained row core (x.place + 1)) core x.place x.address x.value =
    sym (same_Some _ s (sym (ap (drained_by v row core) found) ∙ is)) in
    let right = drained_right v c.args.trail.now.order.items c.args.trail.now.sources.items row s core
    (led_fit v (beginning v) row (beginning_fit v) c.requires.led) c.requires.room c.requires.trail x
    (next_store v row core x found) made in
    let order : c.perform.new.trail.order.items ≡ c.args.trail.now.order.items ++ number_of v.cores core x.place ∷ [] =
    c.in_ok-perform.ensures.order
    ∙ ap (λ (n : ℕ). c.args.trail.now.order.items ++ n ∷ []) c.event_number-number.ensures in
    let sources : c.perform.new.trail.sources.items
    ≡ slice_set c.args.trail.now.sources.items (number_of v.cores core x.place) None =
    c.in_ok-perform.ensures.sources
    ∙ ap (λ (n : ℕ). slice_set c.args.trail.now.sources.items n None) c.event_number-number.ensures in (
      right.0,
      subst (λ (l : List ℕ). IsTrail v l c.perform.new.trail.sources.items (place_of row) (drained_of s) (memory_of s))
          (sym order)
          (subst (λ (l : List (Option ℕ)). IsTrail v
          (c.args.trail.now.order.items ++ number_of v.cores core x.place ∷ []) l (place_of row) (drained_of s) (memory_of s))
          (sym sources) right.1),
    )

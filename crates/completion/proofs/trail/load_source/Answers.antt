use Rattle.std.proofs.Common.{◌≡◌, ◌∙◌, ℕ, List, Some, None, arith, sym, ap}
use Rattle.recording.specs.declared.event.Event.{Event}
use Rattle.completion.specs.Situation.{events_of}
use Rattle.situations.specs.Situation.{drained_of}
use Rattle.situations.specs.Step.{stored_by_event}
use Rattle.situations.specs.Waiting.{between, youngest}
use Rattle.completion.proofs.Lists.{youngest_within}
use Rattle.completion.proofs.trail.load_source.Goals as goal

pub event_number-requires-clause-there : goal.event_number-requires-clause-there
event_number-requires-clause-there c =
    let es : List Event = events_of c.args.values.now.cores c.args.core in
    let d : ℕ = drained_of c.args.row.now c.args.core in
    let seen : c.between-seen.result.now ≡ between es d c.args.place =
    c.between-seen.ensures ∙ (ap (λ (l : List Event). between l c.drained_place-from.result c.args.place) c.events.ensures
    ∙ ap (λ (n : ℕ). between es n c.args.place) c.drained_place-from.ensures.value) in
    let is : youngest stored_by_event c.args.address None d (between es d c.args.place) ≡ Some c.in-Some.own =
    sym (ap (λ (l : List Event). youngest stored_by_event c.args.address None d l) seen)
    ∙ (sym (ap (λ (n : ℕ). youngest stored_by_event c.args.address None n c.between-seen.result.now) c.drained_place-from.ensures.value)
    ∙ (sym c.youngest.ensures ∙ c.in-Some.is)) in
    omega (
      arith,
      youngest_within es d c.args.place c.args.address c.in-Some.own c.requires.low (omega (arith, c.requires.there)) is,
      c.requires.there,
    )

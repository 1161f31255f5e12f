use Rattle.std.proofs.Common.{◌≡◌, ◌<◌, ◌∙◌, ℕ, List, Some, ap, arith, length, sym}
use Rattle.recording.specs.declared.event.Event.{Event}
use Rattle.situations.specs.Situation.{Situation, drained_of, place_of, waiting}
use Rattle.situations.specs.Step.{stored_by_event}
use Rattle.situations.specs.Waiting.{between, oldest}
use Rattle.situations.specs.declared.waiting.Waiting.{Waiting}
use Rattle.values.specs.Values.{Values}
use Rattle.completion.specs.Situation.{events_of}
use Rattle.completion.proofs.Moved.{next_store}
use Rattle.completion.proofs.Shapes.{core_small}
use Rattle.completion.proofs.steps.drain.Goals as goal

-- the oldest store that waits is an event of its core
store_there : (v : Values) (row : Situation) (core from place : ℕ) (events waits : List Event) (x : Waiting)
    → events ≡ events_of v.cores core → from ≡ drained_of row core → place ≡ place_of row core
    → waits ≡ between events from place → oldest stored_by_event from waits ≡ Some x
    → x.place < length (events_of v.cores core)
store_there v row core from place events waits x es drained at are found =
    let same : waits ≡ waiting v.cores row core =
    are ∙ (ap (λ (l : List Event). between l from place) es
    ∙ (ap (λ (n : ℕ). between (events_of v.cores core) n place) drained
    ∙ ap (λ (n : ℕ). between (events_of v.cores core) (drained_of row core) n) at)) in
    let first : oldest stored_by_event (drained_of row core) (waiting v.cores row core) ≡ Some x =
    sym (ap (λ (l : List Event). oldest stored_by_event (drained_of row core) l) same)
    ∙ (sym (ap (λ (n : ℕ). oldest stored_by_event n waits) drained) ∙ found) in
    (next_store v row core x first).inside

pub drain-requires : goal.drain-requires
drain-requires c = omega (
  arith,
  store_there c.args.values.now c.args.row.now c.args.core c.drained_place-from.result c.place.result c.events.result.now
      c.between-waiting.result.now c.in-Some.store c.events.ensures c.drained_place-from.ensures.value c.place.ensures.value
      c.between-waiting.ensures (sym c.oldest.ensures.value ∙ c.in-Some.is),
  core_small c.args.values.now c.requires.room c.args.core,
)

pub write-requires-clause-cores : goal.write-requires-clause-cores
write-requires-clause-cores c =
    ap (λ (z : Situation). length z.places) c.drain.ensures
    ∙ (ap (λ (z : Situation). length z.places) c.in_ok-next.ensures ∙ c.requires.cores)

pub write-requires-clause-there : goal.write-requires-clause-there
write-requires-clause-there c =
    store_there c.args.values.now c.args.row.now c.args.core c.drained_place-from.result c.place.result c.events.result.now
    c.between-waiting.result.now c.in-Some.store c.events.ensures c.drained_place-from.ensures.value c.place.ensures.value
    c.between-waiting.ensures (sym c.oldest.ensures.value ∙ c.in-Some.is)

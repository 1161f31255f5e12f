use Rattle.std.proofs.Common.{◌≡◌, ◌<◌, ◌+◌, ◌++◌, ◌∷◌, [], ◌∙◌, arith, length, ℕ, List, Option, Some, slice_set}
use Rattle.std.proofs.Common.{get_or, ap, sym, subst}
use Rattle.std.proofs.lemmas.List.{get_or_default}
use Rattle.std.proofs.lemmas.Option.{same_Some}
use Rattle.recording.specs.declared.event.Event.{Event}
use Rattle.recording.specs.declared.event.Event.TheVariants.{R, F}
use Rattle.recording.specs.Event.{read_address}
use Rattle.completion.specs.Situation.{memory_of}
use Rattle.completion.specs.Performed.{IsTrail, Settles, last_of, writers}
use Rattle.completion.specs.Situation.{beginning, events_of, number_of}
use Rattle.situations.specs.Situation.{Situation, drained_of, place_of, with_place}
use Rattle.completion.proofs.Moved.{Modifies, moved_modify}
use Rattle.completion.proofs.Rank.{beginning_fit, led_fit}
use Rattle.completion.proofs.Turned.{modified_right}
use Rattle.completion.proofs.Shapes.{core_small}
use Rattle.completion.proofs.trail.modify.Goals as goal

pub go_on-requires : goal.go_on-requires
go_on-requires c = omega (
  arith,
  c.if-place-events.false,
  ap (λ (l : List Event). length l) c.events-events.ensures,
  core_small c.args.values.now c.requires.room c.args.core,
)

-- the address that a read-modify-write reads, as the code finds it
address_is : (es l : List Event) (p k : ℕ) (d : Event) (o source : Option ℕ) (a r w : ℕ) → l ≡ es → p ≡ k → k < length es
    → o ≡ read_address (get_or l p d) → get_or es k F ≡ R a r source w → o ≡ Some a
address_is es l p k d o source a r w list place inside is event =
    is ∙ (ap (λ (z : List Event). read_address (get_or z p d)) list
    ∙ (ap (λ (n : ℕ). read_address (get_or es n d)) place
    ∙ (ap read_address (get_or_default es k d F inside) ∙ ap read_address event)))

pub returns-in_default : goal.returns-in_default
returns-in_default c s is =
    let v = c.args.values.now in
    let row = c.args.row.now in
    let core : ℕ = c.args.core in
    let m : Modifies v row core s = moved_modify v row core s is in
    absurd (c.in_default.not-Some m.a (address_is (events_of v.cores core) c.events-events.result.now c.place-place.result
    (place_of row core) _ c.read_address.result m.o m.a m.r m.w c.events-events.ensures c.place-place.ensures.value m.inside
    c.read_address.ensures m.event))

pub returns : goal.returns
returns c s is =
    let v = c.args.values.now in
    let row = c.args.row.now in
    let core : ℕ = c.args.core in
    let old : List ℕ = c.args.trail.now.order.items in
    let m : Modifies v row core s = moved_modify v row core s is in
    let right = modified_right v old c.args.trail.now.sources.items row s core
    (led_fit v (beginning v) row (beginning_fit v) c.requires.led) c.requires.room c.requires.trail m in
    let address : c.in-Some.address ≡ m.a = same_Some c.in-Some.address m.a (sym c.in-Some.is
    ∙ address_is (events_of v.cores core) c.events-events.result.now c.place-place.result
    (place_of row core) _ c.read_address.result m.o m.a m.r m.w c.events-events.ensures c.place-place.ensures.value m.inside
    c.read_address.ensures m.event) in
    let number : c.event_number-number.result ≡ number_of v.cores core (place_of row core) =
    c.event_number-number.ensures ∙ ap (number_of v.cores core) c.place-place.ensures.value in
    let source : c.last_write-source.result ≡ last_of (writers v m.a old) =
    c.last_write-source.ensures ∙ (ap (λ (l : List ℕ). last_of (writers v c.in-Some.address l)) c.deref.ensures.value
    ∙ ap (λ (a : ℕ). last_of (writers v a old)) address) in
    let order : c.perform.new.trail.order.items ≡ old ++ number_of v.cores core (place_of row core) ∷ [] =
    c.in_ok-perform.ensures.order ∙ ap (λ (n : ℕ). old ++ n ∷ []) number in
    let sources : c.perform.new.trail.sources.items
    ≡ slice_set c.args.trail.now.sources.items (number_of v.cores core (place_of row core)) (last_of (writers v m.a old)) =
    c.in_ok-perform.ensures.sources
    ∙ (ap (λ (n : ℕ). slice_set c.args.trail.now.sources.items n c.last_write-source.result) number
    ∙ ap (slice_set c.args.trail.now.sources.items (number_of v.cores core (place_of row core))) source) in
    let goes : c.go_on.new.self ≡ with_place row core (place_of row core + 1) =
    c.go_on.ensures ∙ ap (λ (k : ℕ). with_place row core (k + 1)) c.place-place.ensures.value in
    subst (λ (z : Situation). Settles v z s
    × IsTrail v c.perform.new.trail.order.items c.perform.new.trail.sources.items (place_of z) (drained_of s) (memory_of s))
    (sym goes) (
      right.0,
      subst (λ (l : List ℕ). IsTrail v l c.perform.new.trail.sources.items
          (place_of (with_place row core (place_of row core + 1))) (drained_of s) (memory_of s)) (sym order)
          (subst (λ (l : List (Option ℕ)). IsTrail v (old ++ number_of v.cores core (place_of row core) ∷ []) l
          (place_of (with_place row core (place_of row core + 1))) (drained_of s) (memory_of s)) (sym sources) right.1),
    )

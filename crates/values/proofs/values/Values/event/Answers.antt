use Rattle.std.proofs.Common.{◌<◌, ◌∙◌, List, length, get_or, arith, sym, refl, ap, Vec, Global}
use Rattle.std.proofs.lemmas.List.{length-map, get_or_read}
use Rattle.recording.specs.declared.event.Event.{Event}
use Rattle.recording.specs.declared.event.Event.TheVariants.{F}
use Rattle.values.specs.Refused.{events_alone}
use Rattle.values.proofs.Walks.{core_seen, count_more, event_found, event_none}
use Rattle.values.proofs.values.Values.event.Goals as goal

pub returns-then-rest-len : goal.returns-then-rest-len
returns-then-rest-len c =
    let seen = core_seen c.cores-events-items.result.now c.args.self.now.cores c.loop-events.events-index
    c.events-item.result (sym c.cores-events-items.ensures) c.loop-events-test.true c.events-item.is in
    let long : c.loop-events.rest < length c.events-item.result.items =
    omega (arith, c.if-rest-len.true, c.len.ensures, c.events-item.result.ok.0) in
    get_or_read _ _ _ long c.index.ensures F
    ∙ (ap (λ (es : List Event). get_or es c.loop-events.rest F) (sym seen.1)
    ∙ event_found (events_alone c.args.self.now) c.loop-events.events-index c.loop-events.rest c.args.number
    (omega (arith, long, ap (λ (es : List Event). length es) seen.1)) c.loop-events.invariant)

pub loop-events-preserved : goal.loop-events-preserved
loop-events-preserved c =
    let seen = core_seen c.cores-events-items.result.now c.args.self.now.cores c.loop-events.events-index
    c.events-item.result (sym c.cores-events-items.ensures) c.loop-events-test.true c.events-item.is in
    let more = count_more c.args.self.now.cores c.loop-events.events-index (length c.events-item.result.items)
    c.events-item.result.items seen.0 seen.1 refl in
    omega (
      arith,
      more,
      c.loop-events.invariant,
      c.if-rest-len.false,
      c.len.ensures,
      c.len-rest.ensures,
      c.events-item.result.ok.0,
    )

pub returns : goal.returns
returns c = event_none (events_alone c.args.self.now) c.loop-events.events-index c.loop-events.rest c.args.number
    (omega (
      arith,
      ap (λ (cs : List (List Event)). length cs) c.cores-events-items.ensures,
      length-map c.cores-events-items.result.now (λ (w : Vec Event Global). w.items),
      c.loop-events-test.false,
    )) c.loop-events.invariant

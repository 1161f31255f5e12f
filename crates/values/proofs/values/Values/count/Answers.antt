use Rattle.std.proofs.Common.{◌∙◌, ◌≤◌, List, arith, sym, refl, ap, length, Vec, Global}
use Rattle.std.proofs.lemmas.List.{length-map}
use Rattle.recording.specs.declared.event.Event.{Event}
use Rattle.values.specs.Refused.{events_alone}
use Rattle.values.proofs.Walks.{core_seen, count_more, count_le, count_all}
use Rattle.values.proofs.values.Values.count.Goals as goal

pub returns-then-len-count : goal.returns-then-len-count
returns-then-len-count c =
    let seen = core_seen c.cores-events-items.result.now c.args.self.now.cores c.loop-events.events-index
    c.events-item.result (sym c.cores-events-items.ensures) c.loop-events-test.true c.events-item.is in
    let within = count_le (events_alone c.args.self.now) c.loop-events.events-index
    (length c.events-item.result.items) c.events-item.result.items seen.0 seen.1 refl in
    omega (
      arith,
      within,
      c.loop-events.invariant.counted,
      c.if-len-count.true,
      c.len.ensures,
      c.events-item.result.ok.0,
    )

pub loop-events-preserved : goal.loop-events-preserved
loop-events-preserved c =
    let seen = core_seen c.cores-events-items.result.now c.args.self.now.cores c.loop-events.events-index
    c.events-item.result (sym c.cores-events-items.ensures) c.loop-events-test.true c.events-item.is in
    let more = count_more c.args.self.now.cores c.loop-events.events-index (length c.events-item.result.items)
    c.events-item.result.items seen.0 seen.1 refl in
    record {
      counted = omega (arith, more, c.loop-events.invariant.counted, c.len-count.ensures, c.events-item.result.ok.0);
      few = omega (arith, c.loop-events.invariant.few, c.if-len-count.false, c.len.ensures, c.len-count.ensures);
    }

pub returns : goal.returns
returns c =
    let past : length c.args.self.now.cores ≤ c.loop-events.events-index = omega (
      arith,
      ap (λ (cs : List (List Event)). length cs) c.cores-events-items.ensures,
      length-map c.cores-events-items.result.now (λ (w : Vec Event Global). w.items),
      c.loop-events-test.false,
    ) in (
      c.loop-events.invariant.counted ∙ count_all (events_alone c.args.self.now) c.loop-events.events-index past,
      c.loop-events.invariant.few,
    )

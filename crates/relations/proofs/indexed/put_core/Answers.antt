use Rattle.std.proofs.Common.{◌≡◌, ◌<◌, ◌∷◌, ◌++◌, [], List, length, length-append, arith, ap, subst, sym, ◌∙◌}
use Rattle.std.proofs.lemmas.List.{get_or_read}
use Rattle.recording.specs.declared.event.Event.TheVariants.{F}
use Rattle.relations.specs.declared.indexed.IndexedEvent.{IndexedEvent}
use Rattle.relations.specs.Indexed.{AreIndexedSoFar}
use Rattle.relations.proofs.Tables.{placed_more}
use Rattle.relations.proofs.Indexing.{below_more, core_here, event_here}
use Rattle.relations.proofs.indexed.put_core.Goals as goal

pub overflow_cast-number : goal.overflow_cast-number
overflow_cast-number c =
    let within : c.loop-i.i < length c.index-cores-core.result.items =
    omega (arith, c.loop-i-test.true, c.len-i-end.ensures, c.index-cores-core.result.ok.0) in
    let at = event_here c.args.recording.now c.cores.result.now c.args.core c.index-cores-core.result c.cores.ensures
    c.requires.core c.index-cores-core.is c.loop-i.i c.len-number.result within
    (omega (arith, c.len-number.ensures, c.loop-i.events.ok.0, c.loop-i.invariant.0)) in
    omega (arith, at.0, c.sound.ensures.within.few_events)

pub indexed_event-requires-clause-number : goal.indexed_event-requires-clause-number
indexed_event-requires-clause-number c =
    let within : c.loop-i.i < length c.index-cores-core.result.items =
    omega (arith, c.loop-i-test.true, c.len-i-end.ensures, c.index-cores-core.result.ok.0) in
    let at = event_here c.args.recording.now c.cores.result.now c.args.core c.index-cores-core.result c.cores.ensures
    c.requires.core c.index-cores-core.is c.loop-i.i c.len-number.result within
    (omega (arith, c.len-number.ensures, c.loop-i.events.ok.0, c.loop-i.invariant.0)) in
    at.0

pub indexed_event-requires-clause-core : goal.indexed_event-requires-clause-core
indexed_event-requires-clause-core c =
    let within : c.loop-i.i < length c.index-cores-core.result.items =
    omega (arith, c.loop-i-test.true, c.len-i-end.ensures, c.index-cores-core.result.ok.0) in
    let at = event_here c.args.recording.now c.cores.result.now c.args.core c.index-cores-core.result c.cores.ensures
    c.requires.core c.index-cores-core.is c.loop-i.i c.len-number.result within
    (omega (arith, c.len-number.ensures, c.loop-i.events.ok.0, c.loop-i.invariant.0)) in
    at.1

pub indexed_event-requires-clause-event : goal.indexed_event-requires-clause-event
indexed_event-requires-clause-event c =
    let within : c.loop-i.i < length c.index-cores-core.result.items =
    omega (arith, c.loop-i-test.true, c.len-i-end.ensures, c.index-cores-core.result.ok.0) in
    let at = event_here c.args.recording.now c.cores.result.now c.args.core c.index-cores-core.result c.cores.ensures
    c.requires.core c.index-cores-core.is c.loop-i.i c.len-number.result within
    (omega (arith, c.len-number.ensures, c.loop-i.events.ok.0, c.loop-i.invariant.0)) in
    at.2 ∙ sym (get_or_read _ _ _ within c.index.ensures F)

pub loop-i-preserved : goal.loop-i-preserved
loop-i-preserved c =
    let ps = c.loop-i.events.items in
    let p = c.indexed_event.result in
    let now : c.push.new.self.items ≡ ps ++ p ∷ [] = c.in_ok-push.ensures.items in (
      omega (
        arith,
        ap (λ (qs : List IndexedEvent). length qs) now,
        length-append ps (p ∷ []),
        c.loop-i.invariant.0,
      ),
      subst (λ (qs : List IndexedEvent). AreIndexedSoFar c.args.recording.now qs) (sym now)
          (placed_more c.args.recording.now ps p c.loop-i.invariant.1 c.indexed_event.ensures.place
          (omega (arith, c.indexed_event.ensures.number, c.len-number.ensures, c.loop-i.events.ok.0))),
    )

pub returns : goal.returns
returns c =
    let own = core_here c.args.recording.now c.cores.result.now c.args.core c.index-cores-core.result c.cores.ensures
    c.requires.core c.index-cores-core.is in
    record {
      size = omega (
        arith,
        c.loop-i.invariant.0,
        c.loop-i-test.false,
        c.len-i-end.ensures,
        c.index-cores-core.result.ok.0,
        below_more c.args.recording.now c.args.core _ c.requires.core own,
      );
      each = c.loop-i.invariant.1;
    }

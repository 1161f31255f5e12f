use Rattle.std.proofs.Common.{arith, ap, sym, ◌∙◌}
use Rattle.recording.specs.Event.{source}
use Rattle.relations.proofs.PlacedWrites.{newer_next, newer_none, newer_places, source_place}
use Rattle.relations.proofs.indexed.newer_place_of.Goals as goal

pub overflow_add-result : goal.overflow_add-result
overflow_add-result c = grind (
  arith,
  c.sound.ensures.within.few_events,
  source_place c.args.recording.now c.sound.ensures.well_formed c.args.number c.in-Some.source
      c.write_place-from.result c.write_place-from.ensures
      (ap source c.requires ∙ (sym c.source.ensures ∙ c.in-Some.is)),
)

pub returns-then-from-source : goal.returns-then-from-source
returns-then-from-source c a reads =
    let x = c.args.recording.now in
    let is = ap source c.requires ∙ (sym c.source.ensures ∙ c.in-Some.is) in
    record {
      place = newer_places x c.sound.ensures.well_formed c.args.number c.in-Some.source a c.write_place-from.result
          c.write_place-from.ensures is reads;
      write = newer_none x c.sound.ensures.well_formed c.args.number c.in-Some.source a c.write_place-from.result
          c.write_place-from.ensures is reads c.if-from-source.true;
    }

pub returns-else-from-source : goal.returns-else-from-source
returns-else-from-source c a reads =
    let x = c.args.recording.now in
    let is = ap source c.requires ∙ (sym c.source.ensures ∙ c.in-Some.is) in
    record {
      place = newer_places x c.sound.ensures.well_formed c.args.number c.in-Some.source a c.write_place-from.result
          c.write_place-from.ensures is reads;
      write = newer_next x c.sound.ensures.well_formed c.args.number c.in-Some.source a c.write_place-from.result
          c.write_place-from.ensures is reads c.if-from-source.false;
    }

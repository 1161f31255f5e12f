use Rattle.std.proofs.Common.{◌≡◌, length, ap, refl}
use Rattle.recording.specs.Event.{written_address}
use Rattle.values.specs.Refused.{events_alone}
use Rattle.values.proofs.Known.{IsSeen, both_below, each_below}
use Rattle.values.proofs.values.Values.has_initial_values_of.Goals as goal

pub returns-then-is_below : goal.returns-then-is_below
returns-then-is_below c =
    let x = events_alone c.args.self.now in
    let seen : IsSeen x c.args.number c.event-event.result c.read_address.result c.written_address.result = record {
      event = c.event-event.ensures;
      read = c.read_address.ensures;
      written = c.written_address.ensures;
    } in
    let count : length c.init-count.result.now ≡ length c.args.self.now.initial =
    ap (λ ns. length ns) c.init-count.ensures in (
      λ t. both_below x c.args.number _ _ c.event-event.result c.read_address.result c.written_address.result seen count
          (c.is_below.ensures.0 cc) (c.is_below-then-is_below.ensures.0 t),
      λ all. c.is_below-then-is_below.ensures.1 (each_below x c.args.number _ _ c.event-event.result
          c.read_address.result c.written_address.result seen count all).1,
    )

pub returns-else-is_below : goal.returns-else-is_below
returns-else-is_below c =
    let x = events_alone c.args.self.now in
    let seen : IsSeen x c.args.number c.event-event.result c.read_address.result (written_address c.event-event.result) =
    record { event = c.event-event.ensures; read = c.read_address.ensures; written = refl } in
    let count : length c.init-count.result.now ≡ length c.args.self.now.initial =
    ap (λ ns. length ns) c.init-count.ensures in (
      λ t. absurd cc,
      λ all. c.is_below.ensures.1 (each_below x c.args.number _ _ c.event-event.result
          c.read_address.result _ seen count all).0,
    )

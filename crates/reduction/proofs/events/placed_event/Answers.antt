use Rattle.std.proofs.Common.{sym, ap}
use Rattle.recording.specs.Order.{place}
use Rattle.recording.specs.EventLaws.{event_past}
use Rattle.reduction.specs.Restriction.{renumbered}
use Rattle.reduction.proofs.events.placed_event.Goals as goal

pub returns-in-None : goal.returns-in-None
returns-in-None c =
    ap (renumbered (place c.args.addresses.now) (place c.args.kept.now))
    (sym (event_past c.args.recording.now c.args.number c.in-None.ensures))

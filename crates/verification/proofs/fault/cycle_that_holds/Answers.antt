use Rattle.std.proofs.Common.{Some, None}
use Rattle.recording.specs.Execution.{event_count}
use Rattle.std.proofs.Common.{◌++◌, codes}
use Rattle.verification.proofs.LinesHeld.{held_as, labels_most, pairs_most}
use Rattle.verification.proofs.fault.cycle_that_holds.Goals as goal

pub returns-in_default : goal.returns-in_default
returns-in_default c =
    let new = c.put_cycle_that_holds.new in
    pairs_most c.args.recording.now c.args.rest.now new.out.items new.rest
    (held_as c.args.places.now c.args.recording.now c.len.result (event_count c.args.recording.now)
    (codes "cycle of " ++ c.args.rest.now) c.new-lines.result.items new.out.items new.rest c.in_ok-size.size None
    c.requires.same c.len.ensures c.new-lines.ensures.items c.in_default.is c.in_ok-size.ensures)

pub returns : goal.returns
returns c =
    let new = c.put_cycle_that_holds.new in
    labels_most c.args.recording.now c.sound.ensures c.args.rest.now new.out.items
    c.put_rows_that_hold.new.out.items new.rest c.in-Some.size
    (held_as c.args.places.now c.args.recording.now c.len.result (event_count c.args.recording.now)
    (codes "cycle of " ++ c.args.rest.now) c.new-lines.result.items new.out.items new.rest c.in_ok-size.size
    (Some c.in-Some.size) c.requires.same c.len.ensures c.new-lines.ensures.items c.in-Some.is c.in_ok-size.ensures)
    c.in_ok-put_rows_that_hold.ensures

use Rattle.recorder.proofs.Somes.{found_is}
use Rattle.recorder.proofs.reading.read_recording_of.Goals as goal

pub returns-in-Some : goal.returns-in-Some
returns-in-Some c =
    c.recording_of.ensures c.args.bytes.now
    (found_is _ c.in_ok-plain.field-0 c.in-Some.plain c.in-Some.is c.in_ok-plain.ensures)

pub returns-in-Ok : goal.returns-in-Ok
returns-in-Ok c = c.recording_of-in-Ok.ensures c.args.bytes.now (c.in-Ok.ensures.found c.args.size)

pub returns-in-Err : goal.returns-in-Err
returns-in-Err c = c.in-Err.ensures.err c.args.size

use Rattle.std.proofs.Common.{sym}
use Rattle.event_texts.proofs.PastEvents.{past_core, past_event}
use Rattle.event_texts.proofs.lines.event_of.Goals as goal

pub returns-in-None-clause-core : goal.returns-in-None-clause-core
returns-in-None-clause-core c = sym (past_core c.args.recording.now c.args.number c.in-None.ensures)

pub returns-in-None-clause-event : goal.returns-in-None-clause-event
returns-in-None-clause-event c = sym (past_event c.args.recording.now c.args.number c.in-None.ensures)

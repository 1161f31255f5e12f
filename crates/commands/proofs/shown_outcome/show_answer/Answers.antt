use Rattle.program_events.specs.ProgramLaws.{short_of_program}
use Rattle.commands.proofs.shown_outcome.show_answer.Goals as goal

pub replayed_recording-requires-clause-short : goal.replayed_recording-requires-clause-short
replayed_recording-requires-clause-short c = short_of_program c.args.program.now c.in-Found.recording
    c.sound.ensures.lawful (rw c.in-Found.is at c.in_ok-recording.ensures).2.program c.sound-in-Found.ensures

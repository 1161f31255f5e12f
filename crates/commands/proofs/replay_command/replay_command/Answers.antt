use Rattle.commands.proofs.replay_command.replay_command.Goals as goal

pub judge_alone-requires : goal.judge_alone-requires
judge_alone-requires g c = c.in_ok-recording.ensures.ok.read.3.within.few_events

pub replay_of-requires-clause-short : goal.replay_of-requires-clause-short
replay_of-requires-clause-short g c = c.in_ok-recording.ensures.ok.read.3

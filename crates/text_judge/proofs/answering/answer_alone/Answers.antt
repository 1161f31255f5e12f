use Rattle.text_judge.proofs.answering.answer_alone.Goals as goal

pub judge_alone-requires : goal.judge_alone-requires
judge_alone-requires c = (rw c.in-Ok.is at c.in_ok-recording.ensures).3.within.few_events

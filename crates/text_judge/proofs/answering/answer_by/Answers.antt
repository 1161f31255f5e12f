use Rattle.text_judge.proofs.answering.answer_by.Goals as goal

pub judge_gated-requires-clause-few : goal.judge_gated-requires-clause-few
judge_gated-requires-clause-few g c κs within = (rw c.in-Ok.is at c.in_ok-recording.ensures).3.within.few_events

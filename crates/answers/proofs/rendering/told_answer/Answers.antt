use Rattle.answers.proofs.rendering.told_answer.Goals as goal

pub judge_alone-requires : goal.judge_alone-requires
judge_alone-requires c = c.requires.within.few_events

use Rattle.answers.proofs.reduced.reduced_answer.Goals as goal

pub judge_alone-requires : goal.judge_alone-requires
judge_alone-requires c = c.requires.short.within.few_events

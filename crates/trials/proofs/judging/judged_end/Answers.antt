use Rattle.trials.proofs.judging.judged_end.Goals as goal

pub judge_alone-requires : goal.judge_alone-requires
judge_alone-requires c = c.in-Ok.ensures.short.within.few_events

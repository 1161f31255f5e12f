use Rattle.answers.proofs.reduced.reduced_line.Goals as goal

pub reduced_answer-requires-clause-short : goal.reduced_answer-requires-clause-short
reduced_answer-requires-clause-short c = (rw c.in-Ok.is at c.in_ok-recording.ensures).3

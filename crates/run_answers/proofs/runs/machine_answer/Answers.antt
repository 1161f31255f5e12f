use Rattle.std.proofs.lemmas.Result.{IfOk-weaker}
use Rattle.run_answers.proofs.runs.machine_answer.Goals as goal

pub judged_run_answer-requires : goal.judged_run_answer-requires
judged_run_answer-requires c = (c.args.machine, c.in_ok-judged.ensures)

pub returns : goal.returns
returns c = IfOk-weaker c.judged_run_answer.result _ _ (λ answer is. is c.args.machine c.in_ok-judged.ensures) c.judged_run_answer.ensures

use Rattle.std.proofs.lemmas.Result.{IfOk-weaker}
use Rattle.run_answers.proofs.campaigns.campaign_answer.Goals as goal

pub returns : goal.returns
returns g c = IfOk-weaker c.trials_answer.result _ _ (λ answer is. record {
  codes = c.in-Ok.ensures.counted.0;
  all = c.in-Ok.ensures.counted.1;
  ledger = c.in-Ok.ledger;
  counted = c.in-Ok.ensures.counted.2;
  answered = is;
}) c.trials_answer.ensures

use Rattle.trials.proofs.OneCode.{one_code, one_kind, one_ledger, adds_up}
use Rattle.trials.proofs.PartsAreOne.{parts_are_one, shards_are_the_campaign}
use Rattle.trials.proofs.law.a_campaign_has_one_ledger.Goals as goal

pub returns-clause-codes : goal.returns-clause-codes
returns-clause-codes c = one_code

pub returns-clause-kinds : goal.returns-clause-kinds
returns-clause-kinds c = one_kind

pub returns-clause-ledgers : goal.returns-clause-ledgers
returns-clause-ledgers c = one_ledger

pub returns-clause-sum : goal.returns-clause-sum
returns-clause-sum c = adds_up

pub returns-clause-parts : goal.returns-clause-parts
returns-clause-parts c = parts_are_one

pub returns-clause-shards : goal.returns-clause-shards
returns-clause-shards c = shards_are_the_campaign c.shards_have_all_trials.ensures.ends c.shards_have_all_trials.ensures.all

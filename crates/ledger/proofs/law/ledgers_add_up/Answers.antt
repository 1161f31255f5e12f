use Rattle.ledger.specs.LedgerLaws.{adds_up, joined, one_ledger}
use Rattle.ledger.proofs.FindingKinds.{every_kind}
use Rattle.ledger.proofs.RealLemmas.{firsts_fit, fitting_has_codes}
use Rattle.ledger.proofs.law.ledgers_add_up.Goals as goal

pub returns-clause-one : goal.returns-clause-one
returns-clause-one c = one_ledger

pub returns-clause-sum : goal.returns-clause-sum
returns-clause-sum c = adds_up

pub returns-clause-joined : goal.returns-clause-joined
returns-clause-joined c = joined

pub returns-clause-fits : goal.returns-clause-fits
returns-clause-fits c = firsts_fit

pub returns-clause-codes : goal.returns-clause-codes
returns-clause-codes c = fitting_has_codes

pub returns-clause-kinds : goal.returns-clause-kinds
returns-clause-kinds c = every_kind

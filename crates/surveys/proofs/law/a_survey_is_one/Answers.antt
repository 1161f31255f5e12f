use Rattle.surveys.proofs.FoundLemmas.{one_finding_of_line, one_ledger_of_bytes, one_text_of_survey}
use Rattle.surveys.proofs.law.a_survey_is_one.Goals as goal

pub returns-clause-findings : goal.returns-clause-findings
returns-clause-findings c = one_finding_of_line

pub returns-clause-counts : goal.returns-clause-counts
returns-clause-counts c = one_ledger_of_bytes

pub returns-clause-texts : goal.returns-clause-texts
returns-clause-texts c = one_text_of_survey

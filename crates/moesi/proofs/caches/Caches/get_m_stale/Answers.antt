use Rattle.std.proofs.Common.{replicate}
use Rattle.moesi.proofs.OriginLemmas.{every_copy_was_there, every_write_adds_itself}
use Rattle.moesi.proofs.Empty.{empty_opening_with, every_call_keeps_empty_lines}
use Rattle.moesi.proofs.caches.Caches.get_m_stale.Goals as goal

pub returns-clause-transactions : goal.returns-clause-transactions
returns-clause-transactions c = every_copy_was_there

pub returns-clause-writes : goal.returns-clause-writes
returns-clause-writes c = every_write_adds_itself

pub returns-clause-empty : goal.returns-clause-empty
returns-clause-empty c = every_call_keeps_empty_lines

pub returns-clause-opening : goal.returns-clause-opening
returns-clause-opening c = λ cores addresses. empty_opening_with cores (replicate addresses 0)

pub returns-clause-opening_with : goal.returns-clause-opening_with
returns-clause-opening_with c = empty_opening_with

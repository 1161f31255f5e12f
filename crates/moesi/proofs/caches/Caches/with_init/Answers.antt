use Rattle.moesi.proofs.CacheLemmas as laws
use Rattle.moesi.proofs.caches.Caches.with_init.Goals as goal

pub returns-clause-opening : goal.returns-clause-opening
returns-clause-opening c = laws.opening_is_coherent

pub returns-clause-opening_with : goal.returns-clause-opening_with
returns-clause-opening_with c = laws.opening_with_is_coherent

pub returns-clause-transactions : goal.returns-clause-transactions
returns-clause-transactions c = laws.every_transaction_keeps_current

pub returns-clause-writes : goal.returns-clause-writes
returns-clause-writes c = laws.every_write_sets_current

pub returns-clause-coherence : goal.returns-clause-coherence
returns-clause-coherence c = laws.every_call_keeps_coherence

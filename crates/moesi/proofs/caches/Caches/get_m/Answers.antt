use Rattle.std.proofs.Common.{inl, inr}
use Rattle.moesi.specs.Coherent.{IsCoherent}
use Rattle.moesi.proofs.CacheLemmas.{every_call_keeps_coherence}
use Rattle.moesi.proofs.Answered.{answer_keeps}
use Rattle.moesi.proofs.caches.Caches.get_m.Goals as goal

pub returns-clause-coherent : goal.returns-clause-coherent
returns-clause-coherent c = λ k.
    answer_keeps _ IsCoherent c.get_m_by.ensures k
    (λ t h. every_call_keeps_coherence c.args.self.now t c.args.core c.args.addr 0 0 k c.requires.core
    c.requires.address (inl (inr (inl h))))

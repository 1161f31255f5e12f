use Rattle.std.proofs.Common.{◌≡◌, false, inl}
use Rattle.std.proofs.lemmas.Bool.{cond-false}
use Rattle.moesi.specs.Lines.{is_valid}
use Rattle.moesi.specs.State.{line_of}
use Rattle.moesi.specs.Coherent.{IsCoherent}
use Rattle.moesi.proofs.CacheLemmas.{every_call_keeps_coherence}
use Rattle.moesi.proofs.Answered.{taken, answer_keeps}
use Rattle.moesi.proofs.caches.Caches.get_s.Goals as goal

pub returns-clause-answer : goal.returns-clause-answer
returns-clause-answer c =
    let off : is_valid (line_of c.args.self.now c.args.core c.args.addr) ≡ false = cc in
    taken c.args.addr (cond-false _ _ _ off) c.take.ensures

pub returns-clause-coherent : goal.returns-clause-coherent
returns-clause-coherent c = λ k.
    answer_keeps _ IsCoherent (returns-clause-answer c) k
    (λ t h. every_call_keeps_coherence c.args.self.now t c.args.core c.args.addr 0 0 k c.requires.core
    c.requires.address (inl (inl h)))

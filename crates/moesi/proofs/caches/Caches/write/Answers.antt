use Rattle.std.proofs.Common.{◌≡◌, inr, Ok, rules}
use Rattle.moesi.specs.State.{write}
use Rattle.moesi.proofs.CacheLemmas.{every_call_keeps_coherence}
use Rattle.moesi.proofs.caches.Caches.write.Goals as goal

pub returns-clause-coherent : goal.returns-clause-coherent
returns-clause-coherent c = λ k.
    let wrote : write c.args.self.now c.args.core c.args.addr c.args.value c.args.event ≡ Ok c.set_word.new.self =
    search rules in
    every_call_keeps_coherence c.args.self.now c.set_word.new.self c.args.core c.args.addr c.args.value c.args.event k
    c.requires.core c.requires.address (inr wrote)

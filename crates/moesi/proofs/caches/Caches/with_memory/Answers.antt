use Rattle.std.proofs.Common.{ℕ, List, length, slice_index, arith, ap, ◌∙◌, ◌+◌, ◌*◌}
use Rattle.std.proofs.lemmas.List.{with_items_is}
use Rattle.moesi.specs.Words.{caches_in}
use Rattle.moesi.proofs.CacheLemmas.{zeros}
use Rattle.moesi.proofs.Filled.{filled_words}
use Rattle.moesi.proofs.caches.Caches.with_memory.Goals as goal

pub returns : goal.returns
returns c =
    ap (caches_in c.args.cores (length c.args.init.now))
    (with_items_is c.in_ok-words.words c.fill_memory.new.words (omega arith))
    ∙ filled_words c.args.cores c.args.init.now c.fill_memory.new.words
    (λ i line. c.fill_memory.ensures.lines i line
    ∙ (ap (λ (ws : List ℕ). slice_index ws i) (c.deref_mut.ensures.value ∙ c.in_ok-words.ensures)
    ∙ zeros ((c.args.cores + 1) * length c.args.init.now) i))
    c.fill_memory.ensures.memory

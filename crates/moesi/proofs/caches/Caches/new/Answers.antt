use Rattle.std.proofs.Common.{◌≡◌, ◌+◌, ◌*◌, ℕ, replicate, length, sym, ap, subst, ◌∙◌}
use Rattle.std.proofs.lemmas.List.{length-replicate}
use Rattle.moesi.specs.State.{opening_caches}
use Rattle.moesi.proofs.CacheLemmas.{zeros}
use Rattle.moesi.specs.Words.{cell_in, memory_cell, caches_in}
use Rattle.moesi.proofs.Filled.{filled_words}
use Rattle.moesi.proofs.caches.Caches.new.Goals as goal

pub returns : goal.returns
returns c =
    let size : ℕ = (c.args.cores + 1) * c.args.addresses in
    let words = replicate size 0 in
    ap (caches_in c.args.cores c.args.addresses) c.in_ok-words_for.ensures
    ∙ subst (λ (n : ℕ). caches_in c.args.cores n words ≡ opening_caches c.args.cores c.args.addresses)
    (length-replicate c.args.addresses 0)
    (filled_words c.args.cores (replicate c.args.addresses 0) words (λ i line. zeros size i)
    (λ a at. ap cell_in (zeros size (c.args.cores * length (replicate c.args.addresses 0) + a))
    ∙ ap memory_cell (sym (zeros c.args.addresses a))))

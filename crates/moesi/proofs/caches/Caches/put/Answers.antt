use Rattle.std.proofs.Common.{◌≡◌, ℕ, true, cond, Option, refl, ap, sym, inl, inr, ◌∙◌}
use Rattle.std.proofs.lemmas.Bool.{cond-true, cond-false}
use Rattle.moesi.specs.declared.cell.Cell.{Cell}
use Rattle.moesi.specs.Lines.{is_valid, is_owned}
use Rattle.moesi.specs.Block.{Block, cell_of, invalid}
use Rattle.moesi.specs.State.{CacheState, block_of, with_block}
use Rattle.moesi.specs.Coherent.{IsCoherent}
use Rattle.moesi.proofs.CacheLemmas.{every_call_keeps_coherence}
use Rattle.moesi.proofs.Answered.{taken, answer_keeps}
use Rattle.moesi.proofs.Seen.{set_after}
use Rattle.moesi.proofs.Written.{state_same}
use Rattle.moesi.proofs.caches.Caches.put.Goals as goal
use Rattle.moesi.proofs.caches.Caches.put.Goals.{then-is_owned, else-is_owned}

pub returns-clause-answer : goal.returns-clause-answer
returns-clause-answer c =
    let s : CacheState = c.args.self.now in
    let b : Block = block_of s c.args.addr in
    let x : Cell = cell_of b c.args.core in
    let line : c.unpack-line.result ≡ x = c.unpack-line.ensures ∙ c.word-word.ensures.line c.requires.core in
    let on : is_valid x.line ≡ true = cc in
    let m : ℕ × Option ℕ = cond (is_owned x.line) x.copy b.memory in
    let first : c.if-is_owned.self ≡ with_block s c.args.addr (record { lines = b.lines; memory = m }) =
    elim c.if-is_owned.branch [
      | then-is_owned w ↦
          rw (w.self-is, cond-true (is_owned x.line) x.copy b.memory (cc)) (w.set_word-then-is_owned.ensures.memory
          (ap (λ (k : CacheState). k.cores) w.set_word.view_is)
          ∙ ap (λ (d : ℕ × Option ℕ). with_block s c.args.addr (record { lines = b.lines; memory = d }))
          (ap (λ (y : Cell). y.copy) w.word_with_line.ensures
          ∙ ap (λ (y : Cell). y.copy) (c.word-word.ensures.line c.requires.core)))
      | else-is_owned w ↦
          rw (w.self-is, cond-false (is_owned x.line) x.copy b.memory (cc)) (sym (state_same s c.args.addr))
    ] in
    taken c.args.addr (cond-true _ _ _ on)
    (set_after s c.if-is_owned.self c.set_word-2.new.self c.args.addr c.args.core
    (record { lines = b.lines; memory = m }) invalid invalid c.requires.address first
    (c.set_word-2.ensures.line (rw first c.requires.core)) refl)

pub returns-clause-coherent : goal.returns-clause-coherent
returns-clause-coherent c = λ k.
    answer_keeps _ IsCoherent (returns-clause-answer c) k
    (λ t h. every_call_keeps_coherence c.args.self.now t c.args.core c.args.addr 0 0 k c.requires.core
    c.requires.address (inl (inr (inr h))))

use Rattle.std.proofs.Common.{◌≡◌, false, refl, ap, ◌∙◌}
use Rattle.std.proofs.lemmas.Bool.{cond-false, cond_both}
use Rattle.moesi.specs.declared.line.Line.{Line}
use Rattle.moesi.specs.declared.line.Line.TheVariants.{M}
use Rattle.moesi.specs.Lines.{is_exclusive}
use Rattle.moesi.specs.Block.{Block, with_line, block_by, has_copy, supplied}
use Rattle.moesi.specs.Rows.{turned}
use Rattle.moesi.specs.State.{block_of, line_of, with_block}
use Rattle.moesi.proofs.Answered.{taken}
use Rattle.moesi.proofs.caches.Caches.get_m_by.Goals as goal

pub returns : goal.returns
returns c =
    let b : Block = block_of c.args.self.now c.args.addr in
    let off : is_exclusive (line_of c.args.self.now c.args.core c.args.addr) ≡ false = cc in
    taken c.args.addr (cond-false _ _ _ off)
    (c.take.ensures
    ∙ ap (λ (l : Line). with_block c.args.self.now c.args.addr
    (with_line (block_by (turned c.args.turn) b) c.args.core (record { line = l; copy = supplied b })))
    (cond_both (has_copy b) M M (λ l. l ≡ M) (λ _. refl) (λ _. refl)))

use Rattle.std.proofs.Common.{◌≡◌, ℕ, cond, Option, List, arith, sym, ap, ◌∙◌}
use Rattle.std.proofs.lemmas.Bool.{cond-true, cond-false}
use Rattle.std.proofs.lemmas.List.{with_items_is}
use Rattle.moesi.specs.declared.line.Line.{Line}
use Rattle.moesi.specs.declared.cell.Cell.{Cell}
use Rattle.moesi.specs.Block.{Block, with_line, block_by, has_copy, supplied}
use Rattle.moesi.specs.Rows.{turned}
use Rattle.moesi.specs.State.{CacheState, with_block}
use Rattle.moesi.specs.Words.{cell_in, block_in, caches_in}
use Rattle.moesi.proofs.Grid.{column, block_seen}
use Rattle.moesi.proofs.caches.Caches.take.Goals as goal
use Rattle.moesi.proofs.caches.Caches.take.Goals.{then-valid, else-valid}

pub ask-valid-requires-clause-address : goal.ask-valid-requires-clause-address
ask-valid-requires-clause-address c =
    column c.self.inside.cores c.self.inside.addresses c.self.inside.words.items c.args.self.now c.args.addr
    c.self.view_is c.requires.address

pub turn_all-requires-clause-address : goal.turn_all-requires-clause-address
turn_all-requires-clause-address c =
    column c.self.inside.cores c.self.inside.addresses c.self.inside.words.items c.args.self.now c.args.addr
    c.self.view_is c.requires.address

pub returns : goal.returns
returns c =
    let m : ℕ = c.self.inside.cores in
    let n : ℕ = c.self.inside.addresses in
    let now : List ℕ = c.self.inside.words.items in
    let a : ℕ = c.args.addr in
    let seen : Block = block_in m n now a in
    let fill : Line = cond (has_copy seen) c.args.beside c.args.alone in
    let filled : c.if-valid.word_with_line ≡ fill =
    elim c.if-valid.branch [
      | then-valid w ↦ w.word_with_line-is ∙ sym (cond-true (has_copy seen) c.args.beside c.args.alone (cc))
      | else-valid w ↦ w.word_with_line-is ∙ sym (cond-false (has_copy seen) c.args.beside c.args.alone (cc))
    ] in
    let x : Block → Cell = λ b. record { line = cond (has_copy b) c.args.beside c.args.alone; copy = supplied b } in
    let own : cell_in c.word_with_line-own.result ≡ x seen =
    c.word_with_line-own.ensures
    ∙ (ap (λ (l : Line). record { line = l; copy = (cell_in c.ask-valid.result.1).copy }) filled
    ∙ ap (λ (d : ℕ × Option ℕ). record { line = fill; copy = d }) (c.ask-valid.ensures.given
    ∙ ap (λ (ws : List ℕ). supplied (block_in m n ws a)) c.deref.ensures.value)) in
    let to : Block → Cell → Block = λ b y. with_line (block_by (turned c.args.turn) b) c.args.core y in
    ap (caches_in m n) (with_items_is c.self.inside.words c.turn_all.new.words (omega arith))
    ∙ (c.turn_all.ensures.turned
    ∙ (ap (λ (ws : List ℕ). with_block (caches_in m n ws) a (to (block_in m n ws a) (cell_in c.word_with_line-own.result)))
    c.deref_mut.ensures.value
    ∙ (ap (λ (y : Cell). with_block (caches_in m n now) a (to seen y)) own
    ∙ (ap (λ (s : CacheState). with_block s a (to seen (x seen))) c.self.view_is
    ∙ ap (λ (b : Block). with_block c.args.self.now a (to b (x b)))
    (block_seen m n now c.args.self.now a c.self.view_is c.requires.address)))))

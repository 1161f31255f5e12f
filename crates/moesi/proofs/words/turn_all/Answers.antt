use Rattle.std.proofs.Common.{◌≡◌, ◌∙◌, ap, refl, sym, arith, List, length, length-set, map}
use Rattle.std.proofs.lemmas.List.{take_all, drop_all, append-nil}
use Rattle.moesi.specs.declared.cell.Cell.{Cell}
use Rattle.moesi.specs.Block.{Block, block_by}
use Rattle.moesi.specs.State.{CacheState, with_block}
use Rattle.moesi.specs.Rows.{turned}
use Rattle.moesi.specs.Words.{cell_in, block_in, caches_in}
use Rattle.moesi.proofs.Grid.{next_place, lines_length, blocks_length, block_at}
use Rattle.moesi.proofs.Written.{turns_more, state_same}
use Rattle.moesi.proofs.Seen.{line_set, set_after}
use Rattle.moesi.proofs.words.turn_all.Goals as goal

pub loop-preserved : goal.loop-preserved
loop-preserved c =
    let s : CacheState = caches_in c.args.cores c.args.addresses c.args.words.now in
    let b : Block = block_in c.args.cores c.args.addresses c.args.words.now c.args.addr in
    record {
      place = next_place c.loop.counter c.args.addresses c.args.addr c.loop.at c.loop.invariant.place;
      size = length-set c.loop.words c.loop.at c.turn_word.result ∙ c.loop.invariant.size;
      turns = turns_more c.args.cores c.args.addresses s c.loop.words c.loop.counter c.args.addr
          c.loop.at c.turn_word.result (turned c.args.turn) b (c.loop.invariant.size ∙ c.requires.words) (omega arith)
          c.requires.address (omega (arith, blocks_length c.args.cores c.args.addresses c.args.words.now))
          (omega (arith, lines_length c.args.cores c.args.addresses c.args.words.now c.args.addr))
          c.loop.invariant.place c.turn_word.ensures c.loop.invariant.turns;
    }

pub loop-init : goal.loop-init
loop-init c = record {
  place = omega arith;
  size = refl;
  turns = sym (ap (with_block (caches_in c.args.cores c.args.addresses c.args.words.now) c.args.addr)
      (sym (block_at c.args.cores c.args.addresses c.args.words.now c.args.addr c.requires.address))
      ∙ state_same (caches_in c.args.cores c.args.addresses c.args.words.now) c.args.addr);
}

pub returns-clause-turned : goal.returns-clause-turned
returns-clause-turned c =
    let s : CacheState = caches_in c.args.cores c.args.addresses c.args.words.now in
    let t : CacheState = caches_in c.args.cores c.args.addresses c.loop.words in
    let b : Block = block_in c.args.cores c.args.addresses c.args.words.now c.args.addr in
    let x : Cell = cell_in c.args.own in
    let all : length b.lines ≡ c.loop.counter =
    omega (arith, lines_length c.args.cores c.args.addresses c.args.words.now c.args.addr) in
    let first : t ≡ with_block s c.args.addr (block_by (turned c.args.turn) b) =
    c.loop.invariant.turns
    ∙ ap (λ (ls : List Cell). with_block s c.args.addr (record { lines = ls; memory = b.memory }))
    (rw (take_all c.loop.counter b.lines (omega arith), drop_all c.loop.counter b.lines (omega arith))
    (append-nil (map (turned c.args.turn) b.lines))) in
    set_after s t _ c.args.addr c.args.core (block_by (turned c.args.turn) b) x x
    (omega (arith, c.requires.address, blocks_length c.args.cores c.args.addresses c.args.words.now)) first
    (line_set c.args.cores c.args.addresses c.loop.words t refl c.args.core c.args.addr c.place.result c.place.ensures
    (omega (arith, c.requires.address, blocks_length c.args.cores c.args.addresses c.loop.words))
    (c.loop.invariant.size ∙ c.requires.words) c.args.own c.requires.core) refl

use Rattle.std.proofs.Common.{◌≡◌, ◌+◌, ◌*◌, length}
use Rattle.moesi.specs.Rows.{turned}
use Rattle.moesi.specs.State.{with_block}
use Rattle.moesi.specs.Words.{block_in, caches_in}
use Rattle.moesi.proofs.Written.{block_up_to}
use Rattle.moesi.proofs.words.turn_all.Given as goal

abbrev pub invariant-loop : goal.invariant-loop
invariant-loop l = record {
  place : l.at ≡ l.counter * l.addresses + l.addr;
  size : length l.words ≡ length l.initial.words;
  turns : caches_in l.cores l.addresses l.words ≡ with_block (caches_in l.cores l.addresses l.initial.words) l.addr
      (block_up_to (turned l.turn) l.counter (block_in l.cores l.addresses l.initial.words l.addr));
}

use Rattle.std.proofs.Common.{◌≡◌, ◌+◌, ◌*◌, ◌||◌, drop}
use Rattle.std.specs.List.{list_any}
use Rattle.moesi.specs.Lines.{is_valid, supplies}
use Rattle.moesi.specs.Block.{Block, copy_where, has_copy, supplied}
use Rattle.moesi.specs.Words.{block_in}
use Rattle.moesi.proofs.words.ask.Given as goal

abbrev pub invariant-loop : goal.invariant-loop
invariant-loop l =
    let b : Block = block_in l.cores l.addresses l.words l.addr in
    record {
      place : l.at ≡ l.counter * l.addresses + l.addr;
      valid : l.valid || list_any (λ x. is_valid x.line) (drop l.counter b.lines) ≡ has_copy b;
      given : copy_where supplies (drop l.counter b.lines) b.memory ≡ supplied b;
    }

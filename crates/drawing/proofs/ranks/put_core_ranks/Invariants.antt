use Rattle.std.proofs.Common.{◌≡◌, ◌++◌}
use Rattle.texts.specs.Below.{texts_below}
use Rattle.drawing.specs.Ranks.{last_rank, next_rank}
use Rattle.drawing.proofs.ranks.put_core_ranks.Given as goal

abbrev pub invariant-loop-i : goal.invariant-loop-i
invariant-loop-i l = record {
  text : l.out.items ≡ l.fn.out.items ++ texts_below (next_rank l.recording l.numbers l.order l.core) l.i;
  last : l.rank ≡ last_rank l.recording l.numbers l.order l.core l.i;
}

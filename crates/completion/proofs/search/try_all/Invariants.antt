use Rattle.std.proofs.Common.{◌≡◌}
use Rattle.completion.specs.Seen.{AreSearched, HasNumber}
use Rattle.completion.specs.Situation.{beginning}
use Rattle.completion.proofs.search.try_all.Given as goal

abbrev pub invariant-loop-number : goal.invariant-loop-number
invariant-loop-number l = record {
  searched : AreSearched l.values l.way.seen;
  first : HasNumber l.way.seen (beginning l.values) 0;
  limit : l.way.limit ≡ l.fn.way.limit;
}

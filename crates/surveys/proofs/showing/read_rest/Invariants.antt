use Rattle.std.proofs.Common.{◌≡◌, ◌-◌, ◌^◌, [], length}
use Rattle.surveys.proofs.Long.{IsReadOf}
use Rattle.surveys.proofs.showing.read_rest.Given as goal

abbrev pub invariant-filled : goal.invariant-filled
invariant-filled g l = record {
  read : IsReadOf (g.R.Source.left l.fn.source) (g.R.Source.left l.source) l.counted;
  reads : g.R.Source.read_failed l.source ≡ g.R.Source.read_failed l.fn.source;
  empty : l.block.items ≡ [];
  size : length l.chunk ≡ length l.fn.chunk;
}

abbrev pub decreases-filled : goal.decreases-filled
decreases-filled g l = 2 ^ 64 - l.counted

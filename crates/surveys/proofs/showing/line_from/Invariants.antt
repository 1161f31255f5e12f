use Rattle.std.proofs.Common.{◌≡◌, ◌+◌, ◌-◌, ◌^◌, length}
use Rattle.surveys.specs.Shown.{IsReadBeforeLine}
use Rattle.surveys.proofs.showing.line_from.Given as goal

abbrev pub invariant-filled : goal.invariant-filled
invariant-filled g l = record {
  before :
      IsReadBeforeLine (g.R.Source.left l.fn.source) (g.R.Source.left l.source) l.block.items l.number l.left
      l.counted;
  reads : g.R.Source.read_failed l.source ≡ g.R.Source.read_failed l.fn.source;
  size : length l.chunk ≡ length l.fn.chunk;
}

abbrev pub decreases-filled : goal.decreases-filled
decreases-filled g l = 2 ^ 65 - (l.counted + length l.block.items)

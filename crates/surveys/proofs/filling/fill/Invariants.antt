use Rattle.std.proofs.Common.{◌≡◌, ◌<◌, ◌-◌, ◌^◌, length}
use Rattle.devices.specs.Bytes.{Gathers}
use Rattle.surveys.proofs.filling.fill.Given as goal

abbrev pub invariant-chunks : goal.invariant-chunks
invariant-chunks g l = record {
  gathered : Gathers (g.R.Source.left l.fn.source) (g.R.Source.left l.source) l.fn.block.items l.block.items;
  count : g.R.Source.read_failed l.source ≡ g.R.Source.read_failed l.fn.source;
  size : length l.chunk ≡ length l.fn.chunk;
  more : length l.fn.block.items < length l.block.items;
}

abbrev pub decreases-chunks : goal.decreases-chunks
decreases-chunks g l = 2 ^ 64 - length l.block.items

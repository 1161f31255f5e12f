use Rattle.std.proofs.Common.{◌≡◌, ◌≢◌, ◌<◌, ◌+◌, ◌-◌, ◌^◌, length}
use Rattle.surveys.specs.declared.reports.Reports.TheVariants.{EachLine}
use Rattle.surveys.specs.Tallies.{IsUnderWay}
use Rattle.surveys.proofs.engine.Engine.count_blocks.Given as goal

abbrev pub invariant-filled : goal.invariant-filled
invariant-filled g l = record {
  way :
      IsUnderWay l.self.kind l.self.reports (g.R.Source.left l.fn.source) (g.R.Source.left l.source)
      l.counted.ledger l.counted.bytes l.block.items (g.W.Sink.written l.fn.sink) (g.W.Sink.written l.sink);
  reads : g.R.Source.read_failed l.source ≡ g.R.Source.read_failed l.fn.source;
  writes : g.W.Sink.write_failed l.sink ≡ g.W.Sink.write_failed l.fn.sink;
  silent : l.self.reports ≢ EachLine → l.sink ≡ l.fn.sink;
  fits : l.counted.bytes < 2 ^ 64;
  size : length l.chunk ≡ length l.fn.chunk;
}

abbrev pub decreases-filled : goal.decreases-filled
decreases-filled g l = 2 ^ 65 - (l.counted.bytes + length l.block.items)

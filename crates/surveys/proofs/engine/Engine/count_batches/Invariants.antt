use Rattle.std.proofs.Common.{◌≡◌, ◌≢◌, ◌<◌, ◌^◌, ◌≤◌, ◌+◌, ◌-◌, drop, length}
use Rattle.surveys.specs.declared.reports.Reports.TheVariants.{EachLine}
use Rattle.surveys.specs.Tallies.{IsTallied}
use Rattle.surveys.proofs.engine.Engine.count_batches.Given as goal

abbrev pub invariant-batches : goal.invariant-batches
invariant-batches g l = record {
  within : l.from ≤ length l.bytes;
  size : l.counted.bytes ≡ l.fn.counted.bytes + l.from;
  fits : l.fn.counted.bytes < 2 ^ 64 → l.counted.bytes < 2 ^ 64;
  tallied :
      IsTallied l.self.kind l.self.reports l.bytes (drop l.from l.bytes) l.fn.counted.ledger l.fn.counted.bytes
      (g.W.Sink.written l.fn.sink) l.counted.ledger l.counted.bytes (g.W.Sink.written l.sink);
  writes : g.W.Sink.write_failed l.sink ≡ g.W.Sink.write_failed l.fn.sink;
  silent : l.self.reports ≢ EachLine → l.sink ≡ l.fn.sink;
}

abbrev pub decreases-batches : goal.decreases-batches
decreases-batches g l = length l.bytes - l.from

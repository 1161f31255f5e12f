use Rattle.std.proofs.Common.{refl, sym, ◌∙◌}
use Rattle.histograms.proofs.Counts.{from_index}
use Rattle.histograms.proofs.histogram.Histogram.has_violation.Goals as goal

pub returns-then-bar : goal.returns-then-bar
returns-then-bar c =
    let at = from_index c.args.self.now.bars c.loop-i.i (c.bar.result.0.now, c.bar.result.1.now) c.bar.ensures in
    sym (c.loop-i.invariant ∙ (rw (at, c.if-bar.true) refl))

pub loop-i-preserved : goal.loop-i-preserved
loop-i-preserved c =
    let at = from_index c.args.self.now.bars c.loop-i.i (c.bar.result.0.now, c.bar.result.1.now) c.bar.ensures in
    c.loop-i.invariant ∙ (rw (at, c.if-bar.false) refl)

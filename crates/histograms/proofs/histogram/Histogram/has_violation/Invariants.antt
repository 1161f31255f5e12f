use Rattle.std.proofs.Common.{◌≡◌, drop}
use Rattle.std.specs.List.{list_any}
use Rattle.histograms.specs.Histogram.{Bar}
use Rattle.histograms.proofs.histogram.Histogram.has_violation.Given as goal

abbrev pub invariant-loop-i : goal.invariant-loop-i
invariant-loop-i l = list_any (λ (b : Bar). b.1.violation) l.self.bars
    ≡ list_any (λ (b : Bar). b.1.violation) (drop l.i l.self.bars)

use Rattle.std.proofs.Common.{◌-◌, ◌≡◌, ◌≤◌, ◌<◌, List, Option, length}
use Rattle.histograms.specs.declared.seen.Seen.{Seen}
use Rattle.histograms.specs.Histogram.{IsHistogram}
use Rattle.histograms.specs.Runs.{AreSeededFrom}
use Rattle.histograms.proofs.seeded_runs.seeded_histogram.Given as goal

abbrev pub invariant-blocks-2 : goal.invariant-blocks-2
invariant-blocks-2 g l = record {
  workers : 0 < l.runs.workers;
  few : l.made ≤ l.runs.runs;
  seen : List (Option Seen);
  count : length seen ≡ l.made;
  each : AreSeededFrom l.program l.runs 0 seen;
  counted : IsHistogram seen l.histogram;
}

abbrev pub decreases-blocks-2 : goal.decreases-blocks-2
decreases-blocks-2 g l = l.runs.runs - l.made

use Rattle.std.proofs.Common.{◌≡◌, ◌<◌, ℕ, List, Option, None, get_or, length}
use Rattle.histograms.specs.declared.seen.Seen.{Seen}
use Rattle.histograms.specs.Histogram.{IsHistogram}
use Rattle.histograms.specs.Runs.{IsLiveRun}
use Rattle.histograms.proofs.live_runs.live_histogram.Given as goal

abbrev pub invariant-loop-run : goal.invariant-loop-run
invariant-loop-run g l = record {
  seen : List (Option Seen);
  count : length seen ≡ l.run;
  each : (k : ℕ) → k < length seen → IsLiveRun l.program l.runs (get_or seen k None);
  counted : IsHistogram seen l.histogram;
}

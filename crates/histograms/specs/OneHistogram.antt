-- The random runs of a program have one histogram, however many workers make them.
use Rattle.std.specs.Prelude.{◌≡◌, ℕ, List, Option}
use Rattle.program.specs.Parts.{Parts}
use Rattle.histograms.specs.declared.seen.Seen.{Seen}
use Rattle.histograms.specs.declared.seeded_runs.SeededRuns.{SeededRuns}
use Rattle.histograms.specs.Histogram.{Histogram, IsHistogram, IsRanked}
use Rattle.histograms.specs.Runs.{AreSeededRuns}

-- a histogram of the random runs of a program, with the most frequent outcome first
abbrev pub IsHistogramOf : Parts → SeededRuns → Histogram → Type 0
IsHistogramOf p o h = (seen : List (Option Seen)) × AreSeededRuns p o seen × IsHistogram seen h × IsRanked h

-- two histograms of the same random runs are one, by however many workers the runs are made
abbrev pub EveryProgramHasOneHistogram : Type 0
EveryProgramHasOneHistogram = (p : Parts) (o : SeededRuns) (workers : ℕ) (h k : Histogram)
    → IsHistogramOf p o h → IsHistogramOf p (record o { workers = workers }) k → h ≡ k

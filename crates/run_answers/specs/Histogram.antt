-- What is answered of many runs of a program.
use Rattle.std.specs.Prelude.{◌≡◌, ◌==◌, List, Option, if◌then◌else◌}
use Rattle.program.specs.Parts.{Parts}
use Rattle.histograms.specs.declared.live_runs.LiveRuns.{LiveRuns}
use Rattle.histograms.specs.declared.seeded_runs.SeededRuns.{SeededRuns}
use Rattle.histograms.specs.declared.seen.Seen.{Seen}
use Rattle.histograms.specs.declared.text.Mark.{Mark}
use Rattle.histograms.specs.declared.text.Mark.TheVariants.{Seed, Run}
use Rattle.histograms.specs.Histogram.{Histogram, IsHistogram, IsRanked, has_violation}
use Rattle.histograms.specs.Runs.{AreLiveRuns, AreSeededRuns}
use Rattle.histograms.specs.Text.{histogram_text}
use Rattle.verdicts.specs.declared.outcome.Outcome.{Outcome}
use Rattle.verdicts.specs.declared.outcome.Outcome.TheVariants.{Done, Unfinished, Violation}
use Rattle.verdicts.specs.declared.printed.Answer.{Answer}

-- a violation where a run is one, else unfinished where one is
abbrev pub histogram_outcome : Histogram → Outcome
histogram_outcome h = if has_violation h then Violation else (if h.unfinished == 0 then Done else Unfinished)

-- the histogram of what was seen of runs, by rank
pub record IsHistogramAnswer (p : Parts) (mark : Mark) (seen : List (Option Seen)) (answer : Answer) : Type 0 where
  pub histogram : Histogram
  pub counted : IsHistogram seen histogram
  pub ranked : IsRanked histogram
  pub text : answer.text.items ≡ histogram_text p mark histogram
  pub outcome : answer.outcome ≡ histogram_outcome histogram

-- of random runs
abbrev pub IsSeededHistogramAnswer : Parts → SeededRuns → Answer → Type 0
IsSeededHistogramAnswer p o answer =
    (seen : List (Option Seen)) × AreSeededRuns p o seen × IsHistogramAnswer p (Seed o.seed) seen answer

-- of runs by threads
abbrev pub IsLiveHistogramAnswer : Parts → LiveRuns → Answer → Type 0
IsLiveHistogramAnswer p o answer =
    (seen : List (Option Seen)) × AreLiveRuns p o seen × IsHistogramAnswer p Run seen answer

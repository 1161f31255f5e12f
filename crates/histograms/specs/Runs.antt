-- Runs of a program, one after another.
use Rattle.std.specs.Prelude.{◌≡◌, ◌<◌, ◌+◌, ◌%◌, ◌^◌, ℕ, IfOk, List, Ok, Option, None, Result, length, slice_index_or}
use Rattle.common.specs.declared.memory.OutOfMemory.{OutOfMemory}
use Rattle.rand_xoshiro.specs.SplitMix64.{splitmix_seed}
use Rattle.rand_xoshiro.specs.Xoshiro256.{of_seed}
use Rattle.program.specs.Parts.{Parts}
use Rattle.machine.specs.Configuration.{Configuration}
use Rattle.live.specs.Trace.{Trace, IsEnded, IsTrace}
use Rattle.live.specs.Driven.{IsAsRequested}
use Rattle.trials.specs.Judged.{begun_machine}
use Rattle.trials.specs.Schedule.{IsRandomRun}
use Rattle.histograms.specs.declared.seen.Seen.{Seen}
use Rattle.histograms.specs.declared.live_runs.LiveRuns.{LiveRuns}
use Rattle.histograms.specs.declared.seeded_runs.SeededRuns.{SeededRuns}
use Rattle.histograms.specs.Seen.{IsSeen}

-- what is seen of the random run of a program whose steps a generator names that is seeded by the sum of the first seed
-- and the number of the run, modulo 2^64
pub record IsSeededRun (p : Parts) (o : SeededRuns) (run : ℕ) (s : Option Seen) : Type 0 where
  pub end : Configuration
  pub rest : List ℕ
  pub ran : IsRandomRun o.attempts (begun_machine p o.buffer o.fault)
      (of_seed (splitmix_seed 32 ((o.seed + run) % 2 ^ 64))) end rest
  pub seen : IsSeen end s

-- what is seen of as many runs as there are, from this one on
abbrev pub AreSeededFrom : Parts → SeededRuns → ℕ → List (Option Seen) → Type 0
AreSeededFrom p o first runs = (k : ℕ) → k < length runs → IsSeededRun p o (first + k) (slice_index_or runs k None)

-- what is seen of runs from this one on, for which there was memory
abbrev pub AreMadeFrom : Parts → SeededRuns → ℕ → List (Result (Option Seen) OutOfMemory) → Type 0
AreMadeFrom p o first slots = (k : ℕ) → k < length slots
    → IfOk (slice_index_or slots k (Ok None)) (IsSeededRun p o (first + k))

-- what is seen of all runs
pub record AreSeededRuns (p : Parts) (o : SeededRuns) (runs : List (Option Seen)) : Type 0 where
  pub count : length runs ≡ o.runs
  pub each : AreSeededFrom p o 0 runs

-- what is seen of a run of a program by threads, which choose the steps
pub record IsLiveRun (p : Parts) (o : LiveRuns) (s : Option Seen) : Type 0 where
  pub trace : Trace
  pub requested : IsAsRequested p o.buffer o.limit trace
  pub taken : IsTrace trace
  pub ended : IsEnded trace
  pub seen : IsSeen trace.machine s

-- what is seen of all such runs
pub record AreLiveRuns (p : Parts) (o : LiveRuns) (runs : List (Option Seen)) : Type 0 where
  pub count : length runs ≡ o.runs
  pub each : (k : ℕ) → k < length runs → IsLiveRun p o (slice_index_or runs k None)

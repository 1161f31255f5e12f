use Rattle.std.proofs.Common.{◌≡◌, ◌≤◌, ◌++◌, List, Ok, Option, Result, length, map, take, ℕ, slice_index_or}
use Rattle.common.specs.declared.memory.OutOfMemory.{OutOfMemory}
use Rattle.histograms.specs.declared.seen.Seen.{Seen}
use Rattle.histograms.specs.Histogram.{IsHistogram}
use Rattle.histograms.proofs.seeded_runs.count.Given as goal

abbrev pub invariant-loop-k : goal.invariant-loop-k
invariant-loop-k l = record {
  size : length l.slots ≡ length l.fn.slots;
  rest : (i : ℕ) (d : Result (Option Seen) OutOfMemory) → l.k ≤ i
      → slice_index_or l.slots i d ≡ slice_index_or l.fn.slots i d;
  counted : (known : List (Option Seen)) → IsHistogram known l.fn.histogram → length known ≡ l.first
      → (seen : List (Option Seen)) × (map Ok seen ≡ take l.k l.fn.slots) × IsHistogram (known ++ seen) l.histogram;
}

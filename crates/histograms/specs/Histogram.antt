-- How often runs come to each outcome.
use Rattle.std.specs.Prelude.{◌≡◌, ◌+◌, ◌&&◌, ◌||◌, ℕ, Bool, false, not, if◌then◌else◌, List, Option}
use Rattle.std.specs.Prelude.{Some, None, count_by, is_none, map}
use Rattle.std.specs.List.{IsDistinct, list_any, prefix_len}
use Rattle.std.specs.List.Sorted.{IsSorted}
use Rattle.std.specs.Map.{lookup}
use Rattle.std.specs.Ordering.{on, flip_args, nat_cmp, then_cmp}
use Rattle.std.specs.declared.cmp.Ordering.{Ordering}
use Rattle.outcomes.specs.Outcome.{Outcome}
use Rattle.outcomes.specs.Listed.{compared, same_outcome}
use Rattle.histograms.specs.declared.seen.Seen.{Seen}
use Rattle.histograms.specs.declared.tally.Tally.{Tally}

-- a run comes to the outcome
abbrev pub comes_to : Outcome → Option Seen → Bool
comes_to o None = false
comes_to o (Some s) = same_outcome o s.outcome

-- it does not
abbrev pub comes_to_another : Outcome → Option Seen → Bool
comes_to_another o s = not (comes_to o s)

-- it comes to the outcome, and TSO has no order for its recording
abbrev pub violates_by : Outcome → Option Seen → Bool
violates_by o None = false
violates_by o (Some s) = same_outcome o s.outcome && s.violation

-- of the runs that come to an outcome: how many there are, the number of the first, and whether one is a violation
abbrev pub tally : List (Option Seen) → Outcome → Tally
tally runs o = record {
  count = count_by (comes_to o) runs;
  first = prefix_len (comes_to_another o) runs;
  violation = list_any (violates_by o) runs;
}

-- none where no run comes to it
abbrev pub tally_of : List (Option Seen) → Outcome → Option Tally
tally_of runs o = if list_any (comes_to o) runs then Some (tally runs o) else None

-- an outcome with the tally of its runs
abbrev pub Bar : Type 0
Bar = Outcome × Tally

-- each outcome with the tally of its runs, and how many runs are unfinished
pub record Histogram : Type 0 where
  pub bars : List Bar
  pub unfinished : ℕ

-- each outcome to which a run comes is there once, with its tally, and no other
pub record IsHistogram (runs : List (Option Seen)) (h : Histogram) : Type 0 where
  pub tallies : (o : Outcome) → lookup (same_outcome o) h.bars ≡ tally_of runs o
  pub once : IsDistinct same_outcome (map (λ b. b.0) h.bars)
  pub unfinished : h.unfinished ≡ count_by is_none runs

-- a run is a violation
abbrev pub has_violation : Histogram → Bool
has_violation h = list_any (λ b. b.1.violation) h.bars

-- the more frequent outcome first, and of two that are equally frequent the first in dictionary order
abbrev pub ranked : Bar → Bar → Ordering
ranked = then_cmp (flip_args (on (λ b. b.1.count) nat_cmp)) (on (λ b. b.0) compared)

-- the bars by rank
abbrev pub IsRanked : Histogram → Type 0
IsRanked h = IsSorted ranked h.bars

-- the tally of the runs and one more, the run with this number, that comes to the outcome
abbrev pub with_run : Option Tally → ℕ → Bool → Tally
with_run None run violation = record { count = 1; first = run; violation = violation }
with_run (Some t) run violation =
    record { count = t.count + 1; first = t.first; violation = t.violation || violation }

use Rattle.std.proofs.Common.{◌≡◌, ◌<◌, ℕ, length}
use Rattle.recording.specs.Execution.{event_count}
use Rattle.relations.specs.Forced.{Forced}
use Rattle.order.specs.Open.{IsOpen}
use Rattle.order.proofs.Greedy.{IsGreedy}
use Rattle.long.specs.Chains.{times_kept}
use Rattle.long.specs.Steps.{IsStep}
use Rattle.long.proofs.sorting.sort.Given as goal

abbrev pub invariant-loop-placed : goal.invariant-loop-placed
invariant-loop-placed l = record {
  size : length l.order.items ≡ l.placed;
  forced : (d e : ℕ) → 0 < times_kept l.pairs d e → Forced l.recording d e;
  enough : (d e : ℕ) → IsStep l.recording d e → 0 < times_kept l.pairs d e;
  greedy : IsGreedy (times_kept l.pairs) (event_count l.recording) l.order.items;
  waiting : IsOpen (times_kept l.pairs) (event_count l.recording) l.order.items l.waiting;
}

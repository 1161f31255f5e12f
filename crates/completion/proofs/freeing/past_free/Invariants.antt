use Rattle.std.proofs.Common.{◌≡◌, ◌≤◌}
use Rattle.completion.specs.Situation.{memory_of}
use Rattle.completion.specs.Situation.{past_free}
use Rattle.situations.specs.Situation.{place_of, drained_of}
use Rattle.completion.proofs.freeing.past_free.Given as goal

abbrev pub invariant-loop-at : goal.invariant-loop-at
invariant-loop-at l = record {
  low : l.from ≤ l.at;
  same : past_free l.values (memory_of l.row) l.core (drained_of l.row l.core) (place_of l.row l.core)
      ≡ past_free l.values (memory_of l.row) l.core l.from l.at;
}

use Rattle.std.proofs.Common.{◌≡◌, ◌<◌, ℕ, Some, slice_get}
use Rattle.outcomes.specs.Reachable.{outcome_in}
use Rattle.outcomes.specs.Situation.{IsEnd}
use Rattle.situations.specs.Situation.{Situation}
use Rattle.outcomes.proofs.witness.ending_with.Given as goal

abbrev pub invariant-loop-at : goal.invariant-loop-at
invariant-loop-at l = (k : ℕ) (r : Situation) → k < l.at → slice_get l.rows.keys k ≡ Some r
    → ¬ (IsEnd l.program.cores r × (outcome_in r ≡ l.outcome))

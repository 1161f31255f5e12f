-- What a line of a log says.
use Rattle.std.specs.Prelude.{ℕ, List}
use Rattle.outcomes.specs.declared.observed.Observation.{Observation}

-- how its count and its items are printed, and what was observed
pub record Seen : Type 0 where
  pub text : List ℕ
  pub items : List Observation

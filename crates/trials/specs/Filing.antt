-- A trial with its code.
use Rattle.std.specs.Prelude.{ℕ}
use Rattle.trials.specs.Campaigns.{Plan}

-- the campaign, the trial and its code
pub record Filing : Type 0 where
  pub campaign : Plan
  pub trial : ℕ
  pub code : ℕ

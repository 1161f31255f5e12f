-- Shards of a campaign: parts whose trials follow each other.
use Rattle.std.specs.Prelude.{◌≡◌, ◌<◌, ◌≤◌, ◌+◌, ◌*◌, ◌-◌, ◌/◌, ◌%◌, ℕ, min}
use Rattle.program.specs.declared.shard.Shard.{Shard}
use Rattle.program.specs.declared.shard.Part.{Part}

-- one of some, numbered from 1
pub record IsShard (s : Shard) : Type 0 where
  pub first : 1 ≤ s.number
  pub last : s.number ≤ s.count

-- how many trials the first k of n shards have: each has as many, or one more, and those with one more come first
abbrev pub trials_of_first : ℕ → ℕ → ℕ → ℕ
trials_of_first k n trials = k * (trials / n) + min k (trials % n)

-- the trials of a shard come after those of the shards before it
abbrev pub part_of : Shard → ℕ → Part
part_of s trials = record {
  first = trials_of_first (s.number - 1) s.count trials;
  trials = trials_of_first s.number s.count trials - trials_of_first (s.number - 1) s.count trials;
}

-- no shard ends before it begins
abbrev pub EveryShardEndsAfterItsBeginning : Type 0
EveryShardEndsAfterItsBeginning = (k n trials : ℕ) → 0 < n → k < n
    → trials_of_first k n trials ≤ trials_of_first (k + 1) n trials

-- all shards have all trials
abbrev pub AllShardsHaveAllTrials : Type 0
AllShardsHaveAllTrials = (n trials : ℕ) → 0 < n → trials_of_first n n trials ≡ trials

-- Parts of a campaign, and what they are together.
use Rattle.std.specs.Prelude.{◌≡◌, ◌<◌, ◌+◌, ◌-◌, ◌%◌, ◌^◌, ◌++◌, ℕ, List, [], zero, suc}
use Rattle.program.specs.Campaigns.{Plan}
use Rattle.program.specs.Shards.{trials_of_first}
use Rattle.trials.specs.Codes.{AreCodes}

-- this many trials of a campaign, from one on, as a campaign
abbrev pub part_plan : Plan → ℕ → ℕ → Plan
part_plan p first count = record p { base = (p.base + first) % 2 ^ 64; trials = count }

-- the codes of two parts of which one follows the other are those of both as one
abbrev pub EveryTwoPartsAreOne : Type 0
EveryTwoPartsAreOne = (p : Plan) (first n m : ℕ) (xs ys : List ℕ) → AreCodes (part_plan p first n) xs
    → AreCodes (part_plan p (first + n) m) ys → AreCodes (part_plan p first (n + m)) (xs ++ ys)

-- the codes of the first k of n shards, one shard after the other
abbrev pub AreShardCodes : Plan → ℕ → ℕ → List ℕ → Type 0
AreShardCodes p n zero codes = codes ≡ []
AreShardCodes p n (suc k) codes = (before last : List ℕ) × (codes ≡ before ++ last) × AreShardCodes p n k before
    × AreCodes (part_plan p (trials_of_first k n p.trials)
    (trials_of_first (k + 1) n p.trials - trials_of_first k n p.trials)) last

-- the codes of all shards of a campaign are its codes
abbrev pub AllShardsAreTheCampaign : Type 0
AllShardsAreTheCampaign = (p : Plan) (n : ℕ) (codes : List ℕ) → 0 < n → AreShardCodes p n n codes → AreCodes p codes

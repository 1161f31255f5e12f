use Rattle.std.proofs.Common.{◌<◌, ◌⊎◌, ℕ, drop, slice_index}
use Rattle.long.specs.Chains.{times_listed}
use Rattle.long.proofs.checking.all_follow.Given as goal

abbrev pub invariant-loop-place : goal.invariant-loop-place
invariant-loop-place l = (d f : ℕ) → 0 < times_listed l.list d f
    → (0 < times_listed (drop l.place l.list) d f) ⊎ (slice_index l.positions d < slice_index l.positions f)

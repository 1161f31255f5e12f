use Rattle.std.proofs.Common.{◌<◌, ℕ, Some}
use Rattle.completion.specs.Part.{MayFeed}
use Rattle.completion.proofs.feeding.is_fed_at_all.Given as goal

abbrev pub invariant-loop-w : goal.invariant-loop-w
invariant-loop-w l = (w : ℕ) → w < l.w → ¬ MayFeed l.values l.e (Some w)

use Rattle.std.proofs.Common.{◌<◌, ℕ, Some}
use Rattle.completion.specs.Part.{MayFeed}
use Rattle.completion.proofs.only.first_source.Given as goal

abbrev pub invariant-loop-w : goal.invariant-loop-w
invariant-loop-w l = (w : ℕ) → w < l.w → ¬ MayFeed l.values l.e (Some w)

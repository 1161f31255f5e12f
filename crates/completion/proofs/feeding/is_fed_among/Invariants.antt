use Rattle.std.proofs.Common.{◌<◌, ℕ, Some}
use Rattle.completion.specs.Left.{IsInRow}
use Rattle.completion.specs.Part.{MayFeed}
use Rattle.completion.proofs.feeding.is_fed_among.Given as goal

abbrev pub invariant-loop-w : goal.invariant-loop-w
invariant-loop-w l = (w : ℕ) → w < l.w → IsInRow l.row w → ¬ MayFeed l.values l.e (Some w)

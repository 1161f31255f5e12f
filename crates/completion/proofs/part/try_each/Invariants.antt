use Rattle.std.proofs.Common.{◌<◌, ℕ}
use Rattle.completion.specs.Left.{IsInRow}
use Rattle.completion.specs.Part.{IsNeeded}
use Rattle.completion.proofs.part.try_each.Given as goal

abbrev pub invariant-loop-e : goal.invariant-loop-e
invariant-loop-e l = (e : ℕ) → e < l.e → IsInRow l.left.row e → IsNeeded l.values l.left.events.items e

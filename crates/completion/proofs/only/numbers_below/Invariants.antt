use Rattle.std.proofs.Common.{◌<◌}
use Rattle.recording.specs.Order.{Enumerates}
use Rattle.completion.proofs.only.numbers_below.Given as goal

abbrev pub invariant-loop-number : goal.invariant-loop-number
invariant-loop-number l = Enumerates (λ e. e < l.number) l.numbers.items

use Rattle.std.proofs.Common.{◌≡◌, length}
use Rattle.trials.proofs.Closing.{Grown, ReadSoFar}
use Rattle.trials.proofs.seat.Desk.close.Given as goal

abbrev pub invariant-loop-k : goal.invariant-loop-k
invariant-loop-k l = (length l.words.items ≡ l.k) × Grown l.fn.seat.seat.me.0 l.seat.seat.me.0
    × ReadSoFar l.fn.seat.seat.me.0 l.words.items

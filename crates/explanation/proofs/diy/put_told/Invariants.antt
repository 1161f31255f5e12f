use Rattle.std.proofs.Common.{◌≡◌, ◌-◌, length}
use Rattle.explanation.specs.Diy.{told_from}
use Rattle.explanation.proofs.diy.put_told.Given as goal

abbrev pub invariant-loop-at : goal.invariant-loop-at
invariant-loop-at l = (l.out.items ≡ l.fn.out.items)
    × (told_from l.steps 0 (length l.steps) ≡ told_from l.steps l.at (length l.steps - l.at))

use Rattle.std.proofs.Common.{◌≡◌, length}
use Rattle.order.specs.Open.{relates_once, IsOpen}
use Rattle.order.proofs.Greedy.{IsGreedy}
use Rattle.order.proofs.least.build.Given as goal

abbrev pub invariant-loop-placed : goal.invariant-loop-placed
invariant-loop-placed l = (length l.order.items ≡ l.placed)
    × IsGreedy (relates_once l.relation) (length l.relation) l.order.items
    × IsOpen (relates_once l.relation) (length l.relation) l.order.items l.waiting

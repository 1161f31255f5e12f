use Rattle.std.proofs.Common.{◌-◌, length}
use Rattle.long.proofs.Back.{IsWalking}
use Rattle.long.proofs.walking.walk.Given as goal

abbrev pub invariant-back : goal.invariant-back
invariant-back l = IsWalking l.befores l.seen.items l.stack.items l.at

abbrev pub decreases-back : goal.decreases-back
decreases-back l = length l.befores - length l.stack.items

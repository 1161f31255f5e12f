use Rattle.std.proofs.Common.{length}
use Rattle.surveys.proofs.Shown.{IsLater}
use Rattle.surveys.proofs.showing.line_in.Given as goal

abbrev pub invariant-lines : goal.invariant-lines
invariant-lines l = IsLater l.bytes l.rest l.number l.left

abbrev pub decreases-lines : goal.decreases-lines
decreases-lines l = length l.rest

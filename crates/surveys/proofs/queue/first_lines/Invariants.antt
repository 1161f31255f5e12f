use Rattle.std.proofs.Common.{◌<◌, length}
use Rattle.surveys.proofs.queue.first_lines.Given as goal

abbrev pub invariant-lines : goal.invariant-lines
invariant-lines l = length l.rest < length l.bytes

abbrev pub decreases-lines : goal.decreases-lines
decreases-lines l = length l.rest

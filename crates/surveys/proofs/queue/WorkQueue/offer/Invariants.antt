use Rattle.std.proofs.Common.{length}
use Rattle.surveys.proofs.queue.WorkQueue.offer.Given as goal

abbrev pub decreases-batches : goal.decreases-batches
decreases-batches g l = length l.rest

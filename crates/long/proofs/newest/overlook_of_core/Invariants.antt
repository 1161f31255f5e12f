use Rattle.std.proofs.Common.{◌<◌, ◌+◌, ℕ}
use Rattle.relations.specs.Forced.{Overlooks}
use Rattle.long.specs.Newest.{AreNewest}
use Rattle.long.proofs.newest.overlook_of_core.Given as goal

abbrev pub invariant-loop-place : goal.invariant-loop-place
invariant-loop-place l = record {
  newest : AreNewest l.recording (l.start + l.place) l.newest;
  none : (k s : ℕ) → k < l.start + l.place → ¬ Overlooks l.recording k s;
}

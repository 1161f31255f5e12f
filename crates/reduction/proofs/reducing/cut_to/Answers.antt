use Rattle.std.proofs.Common.{arith, ap}
use Rattle.recording.specs.Execution.{event_count}
use Rattle.reduction.proofs.Pruned.{count_is}
use Rattle.reduction.proofs.reducing.cut_to.Goals as goal

pub reduced_to-requires : goal.reduced_to-requires
reduced_to-requires c e there = omega (
  arith,
  c.requires e there,
  count_is c.args.recording.now c.args.events.now,
  ap event_count c.in_ok-whole.ensures,
)

use Rattle.std.proofs.Common.{arith}
use Rattle.completion.proofs.Numbered.{inside_here}
use Rattle.completion.proofs.trail.event_number.Goals as goal

pub overflow_cast-result : goal.overflow_cast-result
overflow_cast-result c = omega (
  arith,
  c.number_of.ensures,
  inside_here c.args.values.now c.args.core c.args.place c.requires.there,
  c.requires.room.few_events,
)

pub returns : goal.returns
returns c = omega (
  arith,
  c.number_of.ensures,
  inside_here c.args.values.now c.args.core c.args.place c.requires.there,
  c.requires.room.few_events,
)

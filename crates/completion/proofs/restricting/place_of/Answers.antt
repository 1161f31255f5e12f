use Rattle.std.proofs.Common.{arith}
use Rattle.recording.specs.OrderLaws.{place_within}
use Rattle.completion.proofs.restricting.place_of.Goals as goal

pub overflow_cast-result : goal.overflow_cast-result
overflow_cast-result c = omega (arith, place_within c.args.kept.now c.in-Some.write, c.place.ensures, c.requires)

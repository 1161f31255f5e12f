use Rattle.std.proofs.Common.{arith}
use Rattle.recording.specs.OrderLaws.{place_within}
use Rattle.drawing.proofs.edges.next_in_list.Goals as goal

pub overflow_add-place : goal.overflow_add-place
overflow_add-place c = grind (arith, place_within c.write_list-list.result.now c.args.number)

use Rattle.std.proofs.Common.{◌≡◌, ◌++◌, take}
use Rattle.std.specs.List.{flat_map}
use Rattle.explanation.specs.Order.{placed_lines}
use Rattle.explanation.proofs.named.Named.put_order.Given as goal

abbrev pub invariant-loop-number : goal.invariant-loop-number
invariant-loop-number l = l.out.items ≡ l.initial.out.items
    ++ flat_map (placed_lines l.self.recording.now l.self.names.now l.order) (take l.number-index l.order)

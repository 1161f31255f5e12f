use Rattle.std.proofs.Common.{◌≡◌, [], replicate}
use Rattle.machine.proofs.construction.bounded_lists.Given as goal

abbrev pub invariant-loop : goal.invariant-loop
invariant-loop g l = l.lists.items ≡ replicate l.counter (record { items = []; room = l.room })

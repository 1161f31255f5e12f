use Rattle.std.proofs.Common.{◌≡◌, [], replicate}
use Rattle.machine.proofs.construction.buffers_of.Given as goal

abbrev pub invariant-loop : goal.invariant-loop
invariant-loop l = l.buffers.items ≡ replicate l.counter (record { entries = []; capacity = l.capacity })

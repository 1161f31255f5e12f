use Rattle.std.proofs.Common.{◌≡◌, ◌++◌}
use Rattle.ledger.specs.Counted.{cycle_lines}
use Rattle.ledger.proofs.counted.put_cycle_counts.Given as goal

abbrev pub invariant-loop-cycle : goal.invariant-loop-cycle
invariant-loop-cycle l = l.out.items ≡ l.fn.out.items ++ cycle_lines l.counts l.cycle

use Rattle.std.proofs.Common.{◌≡◌, ◌<◌, ℕ, length, get_or}
use Rattle.values.specs.Final.{final_value}
use Rattle.outcomes.proofs.recorded.memory_of.Given as goal

abbrev pub invariant-loop-address : goal.invariant-loop-address
invariant-loop-address l = record {
  size : length l.memory.items ≡ l.address;
  memory : (a : ℕ) → a < l.address → get_or l.memory.items a 0 ≡ final_value l.recording a;
}

use Rattle.std.proofs.Common.{◌≡◌, ◌≤◌, ◌+◌, ℕ, length, slice_index}
use Rattle.relations.specs.Indexed.{events_below}
use Rattle.relations.proofs.places.core_starts.Given as goal

abbrev pub invariant-loop-core : goal.invariant-loop-core
invariant-loop-core l = record {
  start : l.start ≡ events_below l.recording l.core;
  size : length l.starts.items ≡ l.core + 1;
  each : (c : ℕ) → c ≤ l.core → slice_index l.starts.items c ≡ events_below l.recording c;
}

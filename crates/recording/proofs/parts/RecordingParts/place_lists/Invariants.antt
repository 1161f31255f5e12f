use Rattle.std.proofs.Common.{◌≡◌, ◌<◌, ◌≤◌, ℕ, false}
use Rattle.recording.specs.Execution.{Writes}
use Rattle.recording.specs.Listed.{is_marked, ArePlacedBelow, AreSlotsOf, ListsWritesOnce}
use Rattle.recording.proofs.parts.RecordingParts.place_lists.Given as goal

abbrev pub invariant-loop-address : goal.invariant-loop-address
invariant-loop-address l = record {
  slots : AreSlotsOf l.self l.slots;
  once : (a : ℕ) → a < l.address → ListsWritesOnce l.self a;
  placed : ArePlacedBelow l.self l.address l.slots;
  unmarked : (e a : ℕ) → Writes l.self e a → l.address ≤ a → is_marked l.slots e ≡ false;
}

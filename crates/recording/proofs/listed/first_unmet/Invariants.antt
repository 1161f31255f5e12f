use Rattle.std.proofs.Common.{◌≡◌, ◌<◌, ◌≤◌, ℕ}
use Rattle.recording.specs.declared.slots.Slot.TheVariants.{Written}
use Rattle.recording.specs.Listed.{slot_at}
use Rattle.recording.proofs.listed.first_unmet.Given as goal

abbrev pub invariant-loop-slot : goal.invariant-loop-slot
invariant-loop-slot l = record {
  bound : l.first ≤ l.count;
  least : (e a w : ℕ) → e < l.slot-index → slot_at l.slots e ≡ Written a w → l.first ≤ a;
  unmet : l.first < l.count → (e w : ℕ) × (slot_at l.slots e ≡ Written l.first w);
}

use Rattle.std.proofs.Common.{◌≡◌, ◌<◌, ℕ, IsTrue}
use Rattle.recording.specs.declared.slots.Slot.TheVariants.{Written}
use Rattle.recording.specs.Listed.{slot_at}
use Rattle.recording.proofs.listed.are_all_met.Given as goal

abbrev pub invariant-loop-slot : goal.invariant-loop-slot
invariant-loop-slot l = IsTrue l.all → (e a w : ℕ) → e < l.slot-index → ¬ (slot_at l.slots e ≡ Written a w)

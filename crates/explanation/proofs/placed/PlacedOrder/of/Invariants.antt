use Rattle.std.proofs.Common.{◌≡◌, ◌<◌, ◌+◌, ◌-◌, ℕ, drop, get_or, length}
use Rattle.recording.specs.Order.{place}
use Rattle.explanation.proofs.placed.PlacedOrder.of.Given as goal

abbrev pub invariant-loop-i : goal.invariant-loop-i
invariant-loop-i l = (e : ℕ) → e < length l.places.items
    → get_or l.places.items e 0 ≡ (length l.order - l.i) + place (drop (length l.order - l.i) l.order) e

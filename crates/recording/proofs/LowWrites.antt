-- What an event writes, as slots have it: of an address that is too high for a recording they have nothing.
use Rattle.std.proofs.Common.{◌≡◌, ◌≢◌, ◌<◌, ◌∙◌, ℕ, Bool, true, false, Option, Some, None, if◌then◌else◌}
use Rattle.std.proofs.Common.{ap, refl, sym}
use Rattle.std.proofs.lemmas.Bool.{lt-ltb}
use Rattle.recording.specs.declared.event.Event.{Event}
use Rattle.recording.specs.declared.event.Event.TheVariants.{L, S, R, C, F}
use Rattle.recording.specs.declared.slots.TheConstants.{PLACED}
use Rattle.recording.specs.Event.{written_address}
use Rattle.recording.specs.Listed.{low, written}

-- they have a write to a low address
pub low_some : (p : ℕ × ℕ) → p.0 < PLACED → low (Some p) ≡ Some p
low_some p below = rw (lt-ltb p.0 PLACED below) refl

low_when : (t : Bool) (q p : ℕ × ℕ) → (if t then Some q else None) ≡ Some p → Some q ≡ Some p
low_when true q p is = is
low_when false q p is = absurd cc

-- and what they have is written
pub low_is : (o : Option (ℕ × ℕ)) (p : ℕ × ℕ) → low o ≡ Some p → o ≡ Some p
low_is None p is = absurd cc
low_is (Some q) p is = low_when _ q p is

-- an event that writes an address writes some value there
writes_written : (v : Event) (a : ℕ) → written_address v ≡ Some a → (w : ℕ) × (written v ≡ Some (a, w))
writes_written (L b r s) a writes = absurd cc
writes_written (S b w) a writes = let one : b ≡ a = cc in (w, ap (λ (c : ℕ). Some (c, w)) one)
writes_written (R b r s w) a writes = let one : b ≡ a = cc in (w, ap (λ (c : ℕ). Some (c, w)) one)
writes_written (C b r s) a writes = absurd cc
writes_written F a writes = absurd cc

-- which slots have where the address is low
pub writes_low : (v : Event) (a : ℕ) → a < PLACED → written_address v ≡ Some a
    → (w : ℕ) × (low (written v) ≡ Some (a, w))
writes_low v a below writes =
    let value = writes_written v a writes in (value.0, ap low value.1 ∙ low_some (a, value.0) below)

-- so an event of which they have nothing writes no low address
pub low_none : (v : Event) (a : ℕ) → a < PLACED → low (written v) ≡ None → written_address v ≢ Some a
low_none v a below none writes = let value = writes_low v a below writes in let wrong = sym none ∙ value.1 in absurd cc

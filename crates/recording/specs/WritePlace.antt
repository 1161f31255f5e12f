-- Where writes stand in their write lists.
use Rattle.std.specs.Prelude.{◌≡◌, ◌+◌, ℕ, List, slice_index_or}
use Rattle.recording.specs.declared.slots.WritePlace.{WritePlace}
use Rattle.recording.specs.Order.{place}

-- where the write e stands in a write list, and the write after it, or e
pub record IsWritePlace (ws : List ℕ) (e : ℕ) (p : WritePlace) : Type 0 where
  pub next : p.next ≡ slice_index_or ws (place ws e + 1) e
  pub place : p.place ≡ place ws e

-- The events that wait for no other, by their keys.
use Rattle.std.specs.Prelude.{◌≡◌, ◌<◌, ◌^◌, ◌-◌, ◌==◌, ℕ, List, ◌∷◌, Option, Some, None, length, slice_index}
use Rattle.recording.specs.Order.{times}
use Rattle.order.specs.Open.{one_if}

-- the key of an event: the less the event, the greater its key
abbrev pub key_of : ℕ → ℕ
key_of e = 2 ^ 32 - 1 - e

-- keys, before which one may be held
abbrev pub with_held : Option ℕ → List ℕ → List ℕ
with_held None keys = keys
with_held (Some held) keys = held ∷ keys

-- the keys of the events whose count is 1
pub record IsReady (counts keys : List ℕ) : Type 0 where
  pub few : length counts < 2 ^ 32
  pub each : (e : ℕ) → e < 2 ^ 32 → times keys (key_of e) ≡ one_if (slice_index counts e == 1)

-- How many events at or before each are still open, while an order grows.
use Rattle.std.specs.Prelude.{◌≡◌, ◌↔◌, ◌<◌, ◌+◌, ◌==◌, ℕ, zero, suc, Bool, true, false, cond, List, length}
use Rattle.std.specs.Prelude.{slice_index}
use Rattle.bitrow.specs.Bits.{is_in}
use Rattle.recording.specs.Order.{times}
use Rattle.relations.specs.Relation.{Table, relates}

-- 1 where the test holds, else 0
abbrev pub one_if : Bool → ℕ
one_if true = 1
one_if false = 0

-- how often each event of a table is before each
abbrev pub relates_once : Table → ℕ → ℕ → ℕ
relates_once t d e = one_if (relates t d e)

-- how often events below d are before e and not placed, where w says how often each is before each
unfoldable pub waits : (ℕ → ℕ → ℕ) → List ℕ → ℕ → ℕ → ℕ
waits w placed zero e = 0
waits w placed (suc d) e = waits w placed d e + cond (times placed d == 0) (w d e) 0

-- for each of n events, how often any at or before it is not placed; 0 for a placed one
pub record IsOpen (w : ℕ → ℕ → ℕ) (n : ℕ) (placed counts : List ℕ) : Type 0 where
  pub size : length counts ≡ n
  pub waiting : (e : ℕ) → e < n → times placed e ≡ 0 → slice_index counts e ≡ waits w placed n e + 1
  pub done : (e : ℕ) → e < n → 0 < times placed e → slice_index counts e ≡ 0

-- the events whose count is 1
pub record IsFreeSet (counts : List ℕ) (free : List Bool) : Type 0 where
  pub size : length free ≡ length counts
  pub each : (e : ℕ) → (is_in free e ≡ true) ↔ (slice_index counts e ≡ 1)

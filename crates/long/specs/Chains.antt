-- Pairs of events, kept as a chain for each first event.
use Rattle.std.specs.Prelude.{◌≤◌, ◌<◌, ◌==◌, ℕ, zero, suc, cond, List, [], ◌∷◌, length, slice_index, slice_index_or}
use Rattle.recording.specs.Order.{times}

-- for each first event one more than the place of its last pair, 0 for none; for each pair its second event, and one
-- more than the place of the pair before it of the same first event
pub record Chains : Type 0 where
  pub heads : List ℕ
  pub links : List (ℕ × ℕ)

-- the second events of a chain of at most k pairs
unfoldable pub chain : List (ℕ × ℕ) → ℕ → ℕ → List ℕ
chain links zero head = []
chain links (suc k) zero = []
chain links (suc k) (suc i) = (slice_index_or links i (0, 0)).0 ∷ chain links k (slice_index_or links i (0, 0)).1

-- the second events of a chain from a pair on
abbrev pub rest_from : Chains → ℕ → List ℕ
rest_from p head = chain p.links (length p.links) head

-- the second events of event e
abbrev pub seconds : Chains → ℕ → List ℕ
seconds p e = rest_from p (slice_index p.heads e)

-- how often a pair is kept
abbrev pub times_kept : Chains → ℕ → ℕ → ℕ
times_kept p e f = times (seconds p e) f

-- each chain leads back
pub record AreChains (p : Chains) : Type 0 where
  pub heads : (e : ℕ) → slice_index p.heads e ≤ length p.links
  pub links : (i : ℕ) → (slice_index_or p.links i (0, 0)).1 ≤ i

-- the second events of event e in a list of pairs
unfoldable pub seconds_in : List (ℕ × ℕ) → ℕ → List ℕ
seconds_in [] e = []
seconds_in (pair ∷ pairs) e = cond (pair.0 == e) (pair.1 ∷ seconds_in pairs e) (seconds_in pairs e)

-- how often a pair stands in a list
abbrev pub times_listed : List (ℕ × ℕ) → ℕ → ℕ → ℕ
times_listed pairs e f = times (seconds_in pairs e) f

-- each first event of a list of pairs is below n
abbrev pub HaveFirstsBelow : List (ℕ × ℕ) → ℕ → Type 0
HaveFirstsBelow pairs n = (e f : ℕ) → 0 < times_listed pairs e f → e < n

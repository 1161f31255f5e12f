-- The most stores of a core, of which one at least counts.
use Rattle.std.proofs.Common.{◌≡◌, ◌≤◌, ℕ, max, List, [], ◌∷◌, count_by, arith}
use Rattle.std.proofs.Math.Nat.{le-max_right, max-eq_left, max-eq_right}
use Rattle.recording.specs.declared.event.Event.{Event}
use Rattle.recording.specs.Event.{is_plain_store}
use Rattle.replay.specs.Steps.{most_stores}

-- a core has room for one store at least
most_least : (cores : List (List Event)) → 1 ≤ most_stores cores
most_least [] = omega arith
most_least (es ∷ rest) =
    omega (arith, most_least rest, le-max_right (count_by is_plain_store es) (most_stores rest))

-- so nothing less than one counts
pub most_of_one : (cores : List (List Event)) → max 1 (most_stores cores) ≡ most_stores cores
most_of_one cores = max-eq_right (most_least cores)

-- and one counts no more than what is more
pub most_one : (n : ℕ) → 1 ≤ n → max n 1 ≡ n
most_one n h = max-eq_left h

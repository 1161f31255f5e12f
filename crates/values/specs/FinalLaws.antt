-- Laws of the values that addresses end with.
use Rattle.std.proofs.Common.{◌≡◌, ◌≤◌, ◌<◌, ◌-◌, ℕ, List, [], ◌∷◌, length, get_or, slice_get, arith, refl, ap, ◌∙◌}
use Rattle.std.proofs.lemmas.List.{get_or_past}
use Rattle.std.proofs.lemmas.Option.{slice_get-get_or}
use Rattle.recording.specs.Event.{value_written}
use Rattle.recording.specs.Execution.{Execution, event_at, write_list, initial_value}
use Rattle.values.specs.Final.{value_by, final_value}

-- an address that is never written keeps its value
pub final_unwritten : (x : Execution) (a : ℕ) → length (write_list x a) ≡ 0 → final_value x a ≡ initial_value x a
final_unwritten x a h = go (write_list x a) refl h
  where
    go : (l : List ℕ) → write_list x a ≡ l → length l ≡ 0 → final_value x a ≡ initial_value x a
    go [] is h = ap (λ (k : List ℕ). value_by x a (slice_get k (length k - 1))) is
    go (w ∷ l) is h = absurd (omega (arith, h))

-- another ends with what its last write has written
pub final_written : (x : Execution) (a : ℕ) → 0 < length (write_list x a)
    → final_value x a ≡ value_written (event_at x (get_or (write_list x a) (length (write_list x a) - 1) 0))
final_written x a h =
    ap (value_by x a) (slice_get-get_or (write_list x a) (length (write_list x a) - 1) 0 (omega (arith, h)))

-- one that is not there has 0
pub final_past : (x : Execution) (a : ℕ) → length x.initial ≤ a → length x.initial ≡ length x.write_lists
    → final_value x a ≡ 0
unfolding write_list
final_past x a past size =
    final_unwritten x a (ap (λ (l : List ℕ). length l) (get_or_past x.write_lists a [] (omega (arith, past, size))))
    ∙ get_or_past x.initial a 0 past

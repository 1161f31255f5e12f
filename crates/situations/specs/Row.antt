-- Situations as lists of numbers, and those that a search has seen.
use Rattle.std.specs.Prelude.{◌≡◌, ◌+◌, ℕ, Bool, List, drop, length, map, nat_eq, replicate, take}
use Rattle.std.specs.List.{IsDistinct}
use Rattle.std.specs.Cmp.Lexicographic.{pointwise}
use Rattle.std.specs.Ordering.{on, eq_of_both}
use Rattle.situations.specs.Situation.{Situation}

-- whether two situations are one
abbrev pub same_situation : Situation → Situation → Bool
same_situation =
    eq_of_both (on (λ r. r.places) (pointwise nat_eq))
    (eq_of_both (on (λ r. r.drained) (pointwise nat_eq))
    (eq_of_both (on (λ r. r.memory) (pointwise nat_eq)) (on (λ r. r.notes) (pointwise nat_eq))))

-- the situation of c cores and a addresses that has these numbers
abbrev pub row_of : ℕ → ℕ → List ℕ → Situation
row_of c a numbers = record {
  places = take c numbers;
  drained = take c (drop c numbers);
  memory = take a (drop (c + c) numbers);
  notes = drop (c + c + a) numbers;
}

-- cores are at these places, memory has these values and no store, and each of n notes is this
abbrev pub begun : List ℕ → List ℕ → ℕ → ℕ → Situation
begun places memory n note = record {
  places = places;
  drained = replicate (length places) 0;
  memory = memory;
  notes = replicate n note;
}

-- situations that were seen: of as many cores, addresses and notes each
pub record SeenRows : Type 0 where
  pub cores : ℕ
  pub addresses : ℕ
  pub notes : ℕ
  pub keys : List Situation

-- lists of numbers are of situations with c cores, a addresses and n notes, each once
pub record AreOnce (c a n width : ℕ) (lists : List (List ℕ)) : Type 0 where
  pub width_is : width ≡ c + c + a + n
  pub once : IsDistinct same_situation (map (row_of c a) lists)

-- a situation has as many
pub record FitsAmong (rows : SeenRows) (r : Situation) : Type 0 where
  pub cores : length r.places ≡ rows.cores
  pub addresses : length r.memory ≡ rows.addresses
  pub notes : length r.notes ≡ rows.notes

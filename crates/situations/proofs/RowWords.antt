-- Words of a row, of which one is written.
use Rattle.std.proofs.Common.{◌≡◌, ◌<◌, ◌+◌, ◌∙◌, ℕ, List, ap, arith, drop, take}
use Rattle.std.specs.Prelude.{slice_set}
use Rattle.std.proofs.lemmas.List.{drop-set-add, drop-set-lt, take-set-le}
use Rattle.std.proofs.Math.Seq.{take-set-lt}
use Rattle.situations.specs.Row.{row_of}
use Rattle.situations.specs.Situation.{with_drained, with_note, with_place, with_value}

module _ (c a : ℕ) (ws : List ℕ) (i v : ℕ) where
  -- where core i is
  pub place_set : i < c → row_of c a (slice_set ws i v) ≡ with_place (row_of c a ws) i v
  place_set low =
      let places : take c (slice_set ws i v) ≡ slice_set (take c ws) i v = take-set-lt c ws i v low in
      let drained : take c (drop c (slice_set ws i v)) ≡ take c (drop c ws) = ap (take c) (drop-set-lt c ws i v low) in
      let memory : take a (drop (c + c) (slice_set ws i v)) ≡ take a (drop (c + c) ws) =
      ap (take a) (drop-set-lt (c + c) ws i v (omega (arith, low))) in
      let notes : drop (c + c + a) (slice_set ws i v) ≡ drop (c + c + a) ws =
      drop-set-lt (c + c + a) ws i v (omega (arith, low)) in
      λ k. record { places = places k; drained = drained k; memory = memory k; notes = notes k }

  -- up to where memory has its stores
  pub drained_set : i < c → row_of c a (slice_set ws (c + i) v) ≡ with_drained (row_of c a ws) i v
  drained_set low =
      let places : take c (slice_set ws (c + i) v) ≡ take c ws = take-set-le c ws (c + i) v (omega arith) in
      let drained : take c (drop c (slice_set ws (c + i) v)) ≡ slice_set (take c (drop c ws)) i v =
      ap (take c) (drop-set-add c ws i v) ∙ take-set-lt c (drop c ws) i v low in
      let memory : take a (drop (c + c) (slice_set ws (c + i) v)) ≡ take a (drop (c + c) ws) =
      ap (take a) (drop-set-lt (c + c) ws (c + i) v (omega (arith, low))) in
      let notes : drop (c + c + a) (slice_set ws (c + i) v) ≡ drop (c + c + a) ws =
      drop-set-lt (c + c + a) ws (c + i) v (omega (arith, low)) in
      λ k. record { places = places k; drained = drained k; memory = memory k; notes = notes k }

  -- the value of address i
  pub value_set : i < a → row_of c a (slice_set ws (c + c + i) v) ≡ with_value (row_of c a ws) i v
  value_set low =
      let after : c + c + i ≡ c + (c + i) = omega arith in
      let places : take c (slice_set ws (c + c + i) v) ≡ take c ws = take-set-le c ws (c + c + i) v (omega arith) in
      let drained : take c (drop c (slice_set ws (c + c + i) v)) ≡ take c (drop c ws) =
      ap (λ (n : ℕ). take c (drop c (slice_set ws n v))) after
      ∙ (ap (take c) (drop-set-add c ws (c + i) v) ∙ take-set-le c (drop c ws) (c + i) v (omega arith)) in
      let memory : take a (drop (c + c) (slice_set ws (c + c + i) v)) ≡ slice_set (take a (drop (c + c) ws)) i v =
      ap (take a) (drop-set-add (c + c) ws i v) ∙ take-set-lt a (drop (c + c) ws) i v low in
      let notes : drop (c + c + a) (slice_set ws (c + c + i) v) ≡ drop (c + c + a) ws =
      drop-set-lt (c + c + a) ws (c + c + i) v (omega (arith, low)) in
      λ k. record { places = places k; drained = drained k; memory = memory k; notes = notes k }

  -- note i
  pub note_set : row_of c a (slice_set ws (c + c + a + i) v) ≡ with_note (row_of c a ws) i v
  note_set =
      let first : c + c + a + i ≡ c + (c + a + i) = omega arith in
      let second : c + c + a + i ≡ c + c + (a + i) = omega arith in
      let places : take c (slice_set ws (c + c + a + i) v) ≡ take c ws =
      take-set-le c ws (c + c + a + i) v (omega arith) in
      let drained : take c (drop c (slice_set ws (c + c + a + i) v)) ≡ take c (drop c ws) =
      ap (λ (n : ℕ). take c (drop c (slice_set ws n v))) first
      ∙ (ap (take c) (drop-set-add c ws (c + a + i) v) ∙ take-set-le c (drop c ws) (c + a + i) v (omega arith)) in
      let memory : take a (drop (c + c) (slice_set ws (c + c + a + i) v)) ≡ take a (drop (c + c) ws) =
      ap (λ (n : ℕ). take a (drop (c + c) (slice_set ws n v))) second
      ∙ (ap (take a) (drop-set-add (c + c) ws (a + i) v)
      ∙ take-set-le a (drop (c + c) ws) (a + i) v (omega arith)) in
      let notes : drop (c + c + a) (slice_set ws (c + c + a + i) v) ≡ slice_set (drop (c + c + a) ws) i v =
      drop-set-add (c + c + a) ws i v in
      λ k. record { places = places k; drained = drained k; memory = memory k; notes = notes k }

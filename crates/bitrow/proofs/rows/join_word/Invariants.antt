use Rattle.std.proofs.Common.{◌≡◌, ◌<◌, ◌^◌, ◌+◌, ◌*◌, ℕ, List, length, w64}
use Rattle.std.specs.Int.{trailing_zeros}
use Rattle.bitrow.specs.Bits.{bits_of}
use Rattle.bitrow.specs.Rows.{Marked, GetsLabel, IsUnion}
use Rattle.bitrow.specs.Walks.{IsRest}
use Rattle.bitrow.proofs.rows.join_word.Given as goal

abbrev pub invariant-loop-rest : goal.invariant-loop-rest
invariant-loop-rest g l = (from : ℕ) × record {
  fits : l.rest < 2 ^ 64;
  rest : IsRest l.set l.word l.rest from;
  inside : (l.rest ≡ 0 → ⊥) → 64 * l.word + trailing_zeros w64 l.rest < length l.rows;
  labels : (before : List ℕ) → GetsLabel (bits_of l.set) (64 * l.word) l.label before l.fn.labels
      → GetsLabel (bits_of l.set) from l.label before l.labels;
  joined : IsUnion (Marked l.rows) (bits_of l.set) from (bits_of l.union);
}

abbrev pub decreases-loop-rest : goal.decreases-loop-rest
decreases-loop-rest g l = l.rest

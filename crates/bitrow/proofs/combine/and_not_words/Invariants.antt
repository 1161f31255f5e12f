use Rattle.std.proofs.Common.{ℕ, w64}
use Rattle.std.specs.Prelude.{bit_and}
use Rattle.std.specs.Int.{bit_not}
use Rattle.bitrow.proofs.Combining.{IsCombined}
use Rattle.bitrow.proofs.combine.and_not_words.Given as goal

abbrev pub invariant-loop-k : goal.invariant-loop-k
invariant-loop-k l = IsCombined (λ (a b : ℕ). bit_and a (bit_not w64 b)) l.fn.words l.other l.k l.words

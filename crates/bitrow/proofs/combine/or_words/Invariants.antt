use Rattle.std.proofs.Common.{ℕ}
use Rattle.std.specs.Prelude.{bit_or}
use Rattle.bitrow.proofs.Combining.{IsCombined}
use Rattle.bitrow.proofs.combine.or_words.Given as goal

abbrev pub invariant-loop-k : goal.invariant-loop-k
invariant-loop-k l = IsCombined (λ (a b : ℕ). bit_or a b) l.fn.words l.other l.k l.words
